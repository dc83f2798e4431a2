use Rattle.gaps.proofs.Passes.{forward_step, forward_end}
use Prim.Native.Nat.{◌≤◌, ◌<◌}
use mathlib.Core.Path.{sym, ◌∙◌}
use lib.ListN.{length}
use native.Mathlib.Omega.{arith}
use Rattle.filler.proofs.forward_pass.Goals as goal

pub loop-cell-preserved : goal.loop-cell-preserved
loop-cell-preserved c =
    let q : c.loop-cell.cell-index < length c.loop-cell.row = omega arith in
    forward_step _ _ _ _ q c.filled-last.ensures ∙ c.loop-cell.invariant

pub returns : goal.returns
returns c =
    let q : length c.loop-cell.row ≤ c.loop-cell.cell-index = omega arith in
    sym (forward_end c.loop-cell.row _ c.loop-cell.last q) ∙ c.loop-cell.invariant
