-- A list of items heard one after the other: each finds what the last left. Book and tally are both put so, and the claim follows the two side by side.
use Rattle.std.specs.Prelude.{List, [], ◌∷◌}

-- What the list leaves.
unfoldable pub after : {S I : Type 0} → (S → I → S) → S → List I → S
after step s [] = s
after step s (i ∷ is) = after step (step s i) is

-- What each item is told, by what it finds.
unfoldable pub along : {S I R : Type 0} → (S → I → S) → (S → I → R) → S → List I → List R
along step tell s [] = []
along step tell s (i ∷ is) = tell s i ∷ along step tell (step s i) is

-- P holds of what each item finds, the item, and what it is told.
abbrev pub Each : {S I R : Type 0} → (S → I → S) → (S → I → R → Type 0) → S → List I → List R → Type 0
Each step P s [] [] = Unit {0}
Each step P s [] (r ∷ rs) = ⊥
Each step P s (i ∷ is) [] = ⊥
Each step P s (i ∷ is) (r ∷ rs) = P s i r × Each step P (step s i) is rs
