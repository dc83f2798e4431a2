-- `surface::cells::count_row`: the counts of a row, one after the other. Assumes nothing.
use Rattle.grid.proofs.Rows.{Written}
use Rattle.surface.specs.Filed.{numbers}
use lib.ListN.{length, get_or}
use Rattle.surface.proofs.cells.count_row.Given as goal

abbrev pub invariant-loop-j : goal.invariant-loop-j
invariant-loop-j l = Written (λ k. get_or (numbers l.cells) k 0) (length l.initial.row) l.row l.j
