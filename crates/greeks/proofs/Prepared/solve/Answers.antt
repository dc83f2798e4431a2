use mathlib.Core.Path.{◌∙◌}
use native.Mathlib.Omega.{arith}
use Rattle.brent.specs.Run.{run_with}
use Rattle.blackscholes.proofs.Solving.{again, last_ended, never_asks}
use Rattle.greeks.proofs.Prepared.solve.Invariants.{price_at}
use Rattle.greeks.proofs.Prepared.solve.Goals.{else-loop-test, then-loop-test+in_default}
use Rattle.greeks.proofs.Prepared.solve.Goals as goal

pub loop-init : goal.loop-init
unfolding run_with
loop-init c = simp c.start-answer.ensures

pub loop-preserved : goal.loop-preserved
loop-preserved c =
    again _ _ (price_at c.args.self) _ _ _ _ _ (omega arith) c.in-Ask.is c.price.ensures c.feed-answer.ensures ∙ c.loop.invariant

pub unreachable-requires : goal.unreachable-requires
unreachable-requires c =
    elim c.loop-test.branch [
      | else-loop-test w ↦ never_asks c.args.market (price_at c.args.self) _ _ c.loop.invariant _ _ (omega arith) c.in-Ask-answer.is
      | then-loop-test+in_default w ↦ w.in_default.not-Ask _ _ c.in-Ask-answer.is
    ]

pub returns : goal.returns
returns c = last_ended c.args.market (price_at c.args.self) _ _ c.loop.invariant _ _ c.in-Ended.is
