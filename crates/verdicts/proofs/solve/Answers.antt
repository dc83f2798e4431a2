-- `verdicts::solve`: a volatility is its own answer; of a price, no check of `implied_volatility` holds, so that its answer is the run's end. Assumes nothing.
use Rattle.limits.proofs.Float.{of_bits, round}
use Rattle.brent.specs.Outcome.{outcome_of_implied}
use Rattle.verdicts.proofs.Solver.{itself, solved}
use Rattle.verdicts.proofs.solve.Goals as goal

pub returns-in-Volatility : goal.returns-in-Volatility
unfolding outcome_of_implied of_bits round
returns-in-Volatility c = let a = c.args in itself a.b a.o _ c.in-Volatility.is

pub returns-in-Price : goal.returns-in-Price
returns-in-Price c =
    let a = c.args in
    solved a.b a.o _ _ _ c.implied_volatility.result c.in-Price.is c.requires.0 c.requires.1 c.implied_volatility.ensures
