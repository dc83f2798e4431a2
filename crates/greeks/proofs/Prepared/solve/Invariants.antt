-- `greeks::Prepared::solve`: what is left of the run, fed from the last answer, ends where the whole run does; a run on the prices of a function has ended.
-- Assumes nothing.
use mathlib.Core.Path.{◌≡◌}
use Prim.Native.Nat.{◌-◌}
use lib.Ieee.{Float}
use Rattle.brent.specs.Outcome.{outcome}
use Rattle.brent.specs.Run.{feed_with, run_with}
use Rattle.blackscholes.specs.Model.{at_volatility, price}
use Rattle.greeks.specs.declared.Prepared.{Prepared}
use Rattle.greeks.proofs.Prepared.solve.Given as goal

abbrev pub price_at : Prepared → Float → Float
price_at q v = price (at_volatility q.option v)

abbrev pub invariant-loop : goal.invariant-loop
invariant-loop l = (feed_with (52 - l.counter) (price_at l.self) (outcome l.answer)).reply ≡ (run_with l.market (price_at l.self)).reply
