-- `surface::cells::copy_front`: the values of a list, one after the other. Assumes nothing.
use Rattle.grid.proofs.Rows.{Written}
use lib.Ieee.{nan}
use lib.ListN.{length, get_or}
use Rattle.surface.proofs.cells.copy_front.Given as goal

abbrev pub invariant-loop-i : goal.invariant-loop-i
invariant-loop-i l = Written (λ k. get_or l.src k nan) (length l.initial.entry-items) l.entry-items l.i
