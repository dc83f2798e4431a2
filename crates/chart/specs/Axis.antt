-- Document 01: "Each axis: values sorted ascending, a value dropped if its float difference from the last value kept is under 1e-12. A quote
-- belongs to the first axis value whose difference has magnitude under 1e-12."
use Rattle.std.specs.Prelude.{ℕ, Bool, List, [], ◌∷◌, Float, if◌then◌else◌}
use Rattle.floats.specs.Operators.{decimal, ◌⊖◌, ◌≺◌}
use Rattle.floats.specs.Values.{magnitude}
use Rattle.grid.specs.Search.{first_where}

-- 1e-12: closer than this, two values are one.
abbrev pub hair : Float
hair = decimal 1 1000000000000

-- A value put before the first one above it.
unfoldable pub insert : Float → List Float → List Float
insert x [] = x ∷ []
insert x (y ∷ ys) = if x ≺ y then x ∷ y ∷ ys else y ∷ insert x ys

-- The values inserted one after the other into a sorted list.
unfoldable pub sorted_into : List Float → List Float → List Float
sorted_into sorted [] = sorted
sorted_into sorted (x ∷ xs) = sorted_into (insert x sorted) xs

abbrev pub sort : List Float → List Float
sort xs = sorted_into [] xs

-- What is kept of a sorted list after `last` was kept.
unfoldable pub kept_after : Float → List Float → List Float
kept_after last [] = []
kept_after last (v ∷ vs) = if v ⊖ last ≺ hair then kept_after last vs else v ∷ kept_after v vs

unfoldable pub thinned : List Float → List Float
thinned [] = []
thinned (v ∷ vs) = v ∷ kept_after v vs

abbrev pub axis : List Float → List Float
axis xs = thinned (sort xs)

-- Whether an axis value takes x.
unfoldable pub near : Float → Float → Bool
near a x = magnitude (a ⊖ x) ≺ hair

-- The index of the first axis value that takes x.
abbrev pub place : List Float → Float → ℕ
place axis x = first_where (λ a. near a x) axis
