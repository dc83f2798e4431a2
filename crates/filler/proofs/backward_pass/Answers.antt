use Rattle.gaps.proofs.Passes.{backward_start, backward_step}
use Prim.Native.Nat.{suc, ◌-◌}
use mathlib.Core.Path.{◌≡◌}
use native.Mathlib.Omega.{arith}
use Rattle.filler.proofs.backward_pass.Goals as goal

pub loop-j-init : goal.loop-j-init
loop-j-init c = backward_start _ _ c.nan-last.ensures

pub loop-j-preserved : goal.loop-j-preserved
loop-j-preserved c =
    let e : suc (c.loop-j.j - 1) ≡ c.loop-j.j = omega arith in
    backward_step _ _ _ _ _ _ e c.loop-j.invariant c.filled-last.ensures
