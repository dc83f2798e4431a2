-- `filler::Lent::sweep_columns`: one column more in each round. Assumes nothing.
use Rattle.gaps.specs.Gaps.{columns_swept}
use Rattle.filler.specs.Lent.{Leaves}
use Rattle.filler.proofs.Lent.sweep_columns.Given as goal

abbrev pub invariant-loop-j : goal.invariant-loop-j
invariant-loop-j l = Leaves l.initial.self l.self (columns_swept l.j l.initial.self.expiries l.initial.self.grid.now)
