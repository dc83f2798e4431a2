-- `surface::axis::gather`: what is taken, with the rest behind it, has the axis of all. Assumes nothing.
use Rattle.std.specs.Prelude.{All}
use Rattle.chart.specs.Axis.{axis}
use Prim.Native.Nat.{◌≤◌}
use mathlib.Core.Path.{◌≡◌}
use mathlib.Core.List.{◌++◌}
use lib.ListN.{length, drop}
use Rattle.surface.proofs.Sorting.{Fine}
use Rattle.surface.proofs.axis.gather.Given as goal

abbrev pub invariant-loop-v : goal.invariant-loop-v
invariant-loop-v l =
    (length l.gathered.items ≤ l.v-index) × All Fine l.gathered.items
    × (axis (l.gathered.items ++ drop l.v-index l.values) ≡ axis l.values)
