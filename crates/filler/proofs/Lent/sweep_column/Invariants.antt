-- `filler::Lent::sweep_column`: the swept cells written down the column. Assumes nothing.
use Rattle.gaps.specs.Gaps.{put_column}
use mathlib.Core.Path.{◌≡◌}
use lib.ListN.{drop}
use Rattle.filler.proofs.Lent.sweep_column.Given as goal

abbrev pub invariant-loop-i : goal.invariant-loop-i
invariant-loop-i l =
    (put_column l.j l.i (drop l.i l.cell-items) l.self.grid.now ≡ put_column l.j 0 l.cell-items l.initial.self.grid.now)
    × (l.self.grid.ghost_name ≡ l.initial.self.grid.ghost_name) × (l.self.strikes ≡ l.initial.self.strikes) × (l.self.expiries ≡ l.initial.self.expiries)
