-- What a call answers in document 01's terms, for an answer that is an enum in the code; and what it leaves in lent memory.
use Rattle.std.specs.Prelude.{ℕ, Bool, true, false, eqb, if◌then◌else◌}
use Rattle.limits.specs.Checks.{none}

-- Done with its values, or refused with one number of the table. "A refusal's value fields are 0.0 and its own counts 0, except all the evaluations
-- made": the values beside a number say so.
pub data Outcome (Values : Type 0) : Type 0 where
  done : Values → Outcome Values
  refused : ℕ → Values → Outcome Values

abbrev pub is_done : {Values : Type 0} → Outcome Values → Bool
is_done (done x) = true
is_done (refused number x) = false

-- Its number, or none.
abbrev pub number_of : {Values : Type 0} → Outcome Values → ℕ
number_of (done x) = none
number_of (refused number x) = number

-- Its values, those beside a number included.
abbrev pub values_of : {Values : Type 0} → Outcome Values → Values
values_of (done x) = x
values_of (refused number x) = x

-- By the number that a call's checks give: done with its values where no check holds, else refused with the number, and zeros for the values.
unfoldable pub answered : {Values : Type 0} → ℕ → Values → Values → Outcome Values
answered number zeros values = if eqb number none then done values else refused number zeros

-- "Lent memory keeps its entry content" where a check holds.
unfoldable pub unless_refused : {X : Type 0} → ℕ → X → X → X
unless_refused number is was = if eqb number none then is else was
