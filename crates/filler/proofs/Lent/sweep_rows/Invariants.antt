-- `filler::Lent::sweep_rows`: one row more in each round, lent as a part and given back. Assumes nothing.
use Rattle.gaps.specs.Gaps.{rows_swept}
use Rattle.filler.specs.Lent.{Leaves}
use Rattle.filler.proofs.Lent.sweep_rows.Given as goal

abbrev pub invariant-loop-i : goal.invariant-loop-i
invariant-loop-i l = Leaves l.initial.self l.self (rows_swept l.i l.initial.self.strikes l.initial.self.grid.now)
