use Rattle.grid.proofs.Rows.{write_step, write_end}
use Rattle.grid.proofs.Values.{values_list}
use Prim.Native.Nat.{ℕ}
use lib.Ieee.{nan}
use lib.ListN.{length, drop, get_or}
use Rattle.std.proofs.lemmas.List.{length-take}
use mathlib.Core.List.{◌++◌}
use mathlib.Core.Path.{◌≡◌, refl, ap}
use native.Mathlib.Omega.{arith}
use Rattle.surface.proofs.cells.copy_front.Goals as goal

pub loop-i-preserved : goal.loop-i-preserved
loop-i-preserved c = write_step _ _ _ _ _ c.loop-i-test.true c.loop-i.auto.entry-items refl c.loop-i.invariant

pub returns : goal.returns
returns c =
    let src = c.args.src.now in
    let row = c.loop-i.entry-items in
    let written = write_end _ _ _ _ c.loop-i-test.false c.loop-i.auto.entry-items c.loop-i.invariant in
    let n : length row ≡ length src = omega (arith, (simp length-take at c.loop-i.auto.entry-items)) in
    let all = values_list src (λ k. get_or src k nan) 0 nan (λ i h. ap (λ (k : ℕ). get_or src k nan) (omega arith)) in
    rw (written, ← c.loop-i.auto.entry-items, n, all) (ap (λ (k : ℕ). src ++ drop k c.args.dst.now) (omega arith))
