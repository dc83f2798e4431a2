-- `surface::axis::thin_out`: what is kept, and what is kept of the rest after the last one kept, is the thinned list. Assumes nothing.
use Rattle.chart.specs.Axis.{kept_after, thinned}
use Prim.Native.Nat.{◌≤◌, ◌<◌}
use mathlib.Core.Path.{◌≡◌}
use mathlib.Core.List.{◌++◌}
use lib.ListN.{length, take, drop}
use Rattle.surface.proofs.axis.thin_out.Given as goal

abbrev pub invariant-loop-i : goal.invariant-loop-i
invariant-loop-i l =
    (l.kept ≤ l.i) × (0 < length l.sorted) × (length l.sorted ≡ length l.initial.sorted)
    × (take l.kept l.sorted ++ kept_after l.last (drop l.i l.sorted) ≡ thinned l.initial.sorted)
