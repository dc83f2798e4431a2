-- `greeks::Prepared::deviates`: the definitions, with the prepared parts in their places. Assumes nothing.
use lib.Ieee.{of_bits, round}
use Rattle.blackscholes.specs.Model.{spread, d1, d2}
use Rattle.greeks.proofs.Prepared.deviates.Goals as goal

pub returns : goal.returns
unfolding spread d1 d2 of_bits round
returns c = simp (c.args.self.logarithm, c.args.self.square_root)
