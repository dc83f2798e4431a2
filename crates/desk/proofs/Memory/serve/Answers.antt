-- `desk::Memory::serve`: a turn more, and what it leaves. Assumes nothing.
use Rattle.std.proofs.Common.{rules}
use Rattle.desk.proofs.Turns.{at_first, and_then}
use Rattle.desk.proofs.Memory.serve.Goals as goal

pub loop-init : goal.loop-init
loop-init c = record { same_memory = search rules; served = rw c.start-state.ensures (at_first _ _) }

pub returns-in_err-state-clause-served : goal.returns-in_err-state-clause-served
returns-in_err-state-clause-served c =
    rw c.from_residual.ensures (and_then _ _ _ _ _ _ _ (search rules) c.loop.invariant.served c.in_err-state.ensures.heard)

pub loop-preserved : goal.loop-preserved
loop-preserved c =
    record {
      same_memory = search rules;
      served = and_then _ _ _ _ _ _ _ (search rules) c.loop.invariant.served c.in_ok-state.ensures.heard;
    }
