-- `Placed::tally`: each quote has its cell, where it is filed. Assumes nothing.
use Rattle.chart.proofs.Filing.{Filing}
use Rattle.surface.specs.Filed.{sums, numbers}
use Rattle.surface.specs.Lent.{axes_in}
use Rattle.surface.specs.Quoted.{quotes_in}
use Rattle.surface.proofs.cells.Placed.tally.Given as goal

abbrev pub invariant-loop-i : goal.invariant-loop-i
invariant-loop-i l = Filing (axes_in l.self) (quotes_in l.self.quotes) (sums l.cells) (numbers l.cells) l.i
