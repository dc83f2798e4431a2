-- Answers counted, and the words for one.
use Rattle.std.specs.Prelude.{Bool, true, false, ◌&&◌, ◌==◌, List, ℕ, ◌+◌, ◌-◌, ◌^◌, min, codes}
use Rattle.vectors.specs.declared.Tally.{Tally}

-- One more; the largest number stays.
abbrev pub one_more : ℕ → ℕ
one_more n = min (n + 1) (2 ^ 64 - 1)

abbrev pub counted : Tally → Bool → Tally
counted t true = record { right = one_more t.right; wrong = t.wrong }
counted t false = record { right = t.right; wrong = one_more t.wrong }

abbrev pub is_empty : Tally → Bool
is_empty t = t.right == 0 && t.wrong == 0

abbrev pub verdict : Bool → List ℕ
verdict true = codes "ok"
verdict false = codes "MISMATCH"
