-- What a host is told is the answer's outcome, for no refusal has the number 0. Assumes nothing.
use Rattle.std.specs.Prelude.{Result, Ok, Err}
use mathlib.Core.Path.{◌≡◌, refl}
use lib.ListN.{get_or}
use borrow.Author.Tests.{ne_eqb}
use Rattle.limits.specs.Checks.{none}
use Rattle.limits.specs.Outcome.{values_of}
use Rattle.limits.specs.Refusals.{number, number_in, outcome_with}
use Rattle.limits.specs.declared.Refusal.{Refusal}
use Rattle.limits.proofs.Refusals.{some}
use Rattle.brent.specs.declared.Solution.{Solution}
use Rattle.brent.specs.declared.Unsolved.{Unsolved}
use Rattle.brent.specs.Outcome.{outcome_of_implied}
use Rattle.ledger.specs.Rows.{numbers_of, evidence_of}
use Rattle.host.specs.Answers.{told, over, written, solved_written}

module _ {T : Type 0} (zeros : T) where
  pub told_answer : (answer : Result T Refusal) → told (number_in answer) (values_of (outcome_with zeros answer)) ≡ outcome_with zeros answer
  unfolding told
  told_answer (Ok x) = refl
  told_answer (Err refusal) = simp (ne_eqb (number refusal) none (some refusal))

  -- `made` is what the code has for the zeros
  pub told_over : {Y : Type 0} (f : T → Y) (answer : Result T Refusal) (made : T) → made ≡ zeros
      → told (number_in answer) (f (values_of (outcome_with made answer))) ≡ over f (outcome_with zeros answer)
  unfolding told over
  told_over f (Ok x) made e = refl
  told_over f (Err refusal) made e = rw e (simp (ne_eqb (number refusal) none (some refusal)))

-- a solver's number stands in one row with its evaluations
pub told_solved : (answer : Result Solution Unsolved)
    → (let o = outcome_of_implied answer in told (get_or (numbers_of o) 0 0) (written (evidence_of o) (get_or (numbers_of o) 1 0)) ≡ over solved_written o)
unfolding told over outcome_of_implied numbers_of evidence_of
told_solved (Ok x) = refl
told_solved (Err unsolved) = simp (ne_eqb (number unsolved.refusal) none (some unsolved.refusal))
