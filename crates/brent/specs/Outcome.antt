-- The solver's answer in document 01's terms: it asks for the price at a volatility, or it has ended, done or refused. Each case carries the state that
-- follows.
use Rattle.std.specs.Prelude.{ℕ, Float, Result, Ok, Err}
use Rattle.floats.specs.Operators.{decimal}
use Rattle.limits.specs.Outcome.{Outcome, done, refused}
use Rattle.limits.specs.Refusals.{number}
use Rattle.brent.specs.declared.Solution.{Solution}
use Rattle.brent.specs.declared.Unsolved.{Unsolved}
use Rattle.brent.specs.declared.Solver.{Solver}
use Rattle.brent.specs.declared.Answer.{Answer}
use Rattle.brent.specs.declared.Answer.TheVariants.{Ask, Ended}

-- "A refusal's value fields are 0.0 and its own counts 0, except all the evaluations made .. given with 11 to 14." (14 left with S-10.)
unfoldable pub zeros : ℕ → Solution
zeros n = record { volatility = decimal 0 1; error = decimal 0 1; c = decimal 0 1; c_error = decimal 0 1; evaluations = n }

pub data Reply : Type 0 where
  asking : Float → Solver → Reply
  ended : Outcome Solution → Solver → Reply

-- What the solver found, or a number beside zeros and the evaluations made.
unfoldable pub outcome_of_implied : Result Solution Unsolved → Outcome Solution
outcome_of_implied (Ok solution) = done solution
outcome_of_implied (Err unsolved) = refused (number unsolved.refusal) (zeros unsolved.evaluations)

-- Document 01's number and values for each case of the answer.
unfoldable pub outcome : Answer → Reply
unfolding outcome_of_implied
outcome (Ask volatility next) = asking volatility next
outcome (Ended solved next) = ended (outcome_of_implied solved) next
