-- `Told`: a solver's answer told by any number, or by its own. Assumes nothing.
use Rattle.std.specs.Prelude.{Result, Ok, Err}
use mathlib.Core.Path.{◌≡◌, refl}
use Rattle.limits.specs.Refusals.{number}
use Rattle.brent.specs.declared.Solution.{Solution}
use Rattle.brent.specs.declared.Unsolved.{Unsolved}
use Rattle.brent.specs.Outcome.{outcome_of_implied}
use Rattle.rows.specs.Told.{told_implied, Told}

pub of_solver : (answer : Result Solution Unsolved)
    → told_implied (λ unsolved. number unsolved.refusal) (λ unsolved. unsolved.evaluations) answer ≡ outcome_of_implied answer
unfolding outcome_of_implied
of_solver (Ok solution) = refl
of_solver (Err unsolved) = refl

pub told : Told
told = record { any_refusal = λ E told evaluations refusal. refl; of_solver = of_solver }
