-- A solver's answer in document 01's terms, where a refusal is told by a number, any number, and the evaluations made.
use Rattle.std.specs.Prelude.{ℕ, ◌≡◌, Result, Err}
use Rattle.limits.specs.Outcome.{Outcome, refused}
use Rattle.limits.specs.Refusals.{number}
use Rattle.brent.specs.declared.Solution.{Solution}
use Rattle.brent.specs.declared.Unsolved.{Unsolved}
use Rattle.brent.specs.Outcome.{zeros, outcome_of_implied}
use Rattle.outcomes.specs.Told.{told_outcome}

abbrev pub told_implied : {E : Type 0} → (E → ℕ) → (E → ℕ) → Result Solution E → Outcome Solution
told_implied told evaluations answer = told_outcome told (λ refusal. zeros (evaluations refusal)) answer

pub record Told : Type 1 where
  -- of any number after any evaluations, both, and zeros
  pub any_refusal : (E : Type 0) (told evaluations : E → ℕ) (refusal : E)
      → told_implied told evaluations (Err refusal) ≡ refused (told refusal) (zeros (evaluations refusal))
  -- of the solver's own refusals, what `brent` says of them
  pub of_solver : (answer : Result Solution Unsolved)
      → told_implied (λ unsolved. number unsolved.refusal) (λ unsolved. unsolved.evaluations) answer ≡ outcome_of_implied answer
