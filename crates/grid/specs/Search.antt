-- The search that stops at the first hit.
use Rattle.std.specs.Prelude.{ℕ, suc, ◌≡◌, Bool, true, List, [], ◌∷◌, Float, if◌then◌else◌}

-- The index of the first value of which the test holds, and the length where it holds of none.
unfoldable pub first_where : (Float → Bool) → List Float → ℕ
first_where test [] = 0
first_where test (x ∷ xs) = if test x then 0 else suc (first_where test xs)

-- Of the values after one that passes the test all pass it: what a search by halves needs.
abbrev pub AllPass : (Float → Bool) → List Float → Type 0
AllPass test [] = Unit {0}
AllPass test (x ∷ xs) = (test x ≡ true) × AllPass test xs

abbrev pub Rising : (Float → Bool) → List Float → Type 0
Rising test [] = Unit {0}
Rising test (x ∷ xs) = (test x ≡ true → AllPass test xs) × Rising test xs
