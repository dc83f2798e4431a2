-- `filler::gather`: the cells of a column, one after the other. Assumes nothing.
use Rattle.grid.proofs.Rows.{Written}
use Prim.Native.Nat.{◌+◌, ◌*◌}
use lib.ListN.{length, get_or}
use lib.Ieee.{nan}
use Rattle.filler.proofs.Lent.gather.Given as goal

abbrev pub invariant-loop-i : goal.invariant-loop-i
invariant-loop-i l = Written (λ k. get_or l.self.grid.now (64 * k + l.j) nan) (length l.initial.cells) l.cells l.i
