-- `Placed::write_cells`: one row more in each round, lent as a part of either table and given back. Assumes nothing.
use Rattle.chart.specs.Build.{table}
use Rattle.surface.proofs.Held.{cell_of, count_of}
use mathlib.Core.Path.{◌≡◌}
use lib.ListN.{length}
use Rattle.surface.proofs.cells.Placed.write_cells.Given as goal

abbrev pub invariant-loop-i : goal.invariant-loop-i
invariant-loop-i l =
    record {
      cells : l.grid ≡ table l.i (length l.self.strikes.now) (cell_of l.cells (length l.self.strikes.now)) l.initial.grid;
      counted : l.counts ≡ table l.i (length l.self.strikes.now) (count_of l.cells) l.initial.counts;
    }
