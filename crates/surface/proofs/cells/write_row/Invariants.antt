-- `surface::cells::write_row`: in each round `last` is what the column before holds. Assumes nothing.
use Rattle.grid.proofs.Rows.{Written}
use Rattle.chart.specs.Steps.{held}
use Rattle.surface.specs.Filed.{sums, numbers}
use Prim.Native.Nat.{◌-◌}
use mathlib.Core.Path.{◌≡◌}
use lib.ListN.{length, get_or}
use lib.Ieee.{nan}
use Rattle.surface.proofs.cells.write_row.Given as goal

abbrev pub invariant-loop-j : goal.invariant-loop-j
invariant-loop-j l = let f = held (λ k. get_or (sums l.cells) k nan) (λ k. get_or (numbers l.cells) k 0) (length l.initial.row) in
    (l.last ≡ f (l.j - 1)) × Written f (length l.initial.row) l.row l.j
