-- `filler::forward_pass`: what is done, then the pass over the rest, is the pass over the row. Assumes nothing.
use Rattle.gaps.specs.Gaps.{forward}
use mathlib.Core.Path.{◌≡◌}
use mathlib.Core.List.{◌++◌}
use lib.ListN.{take, drop}
use lib.Ieee.{nan}
use Rattle.filler.proofs.forward_pass.Given as goal

abbrev pub invariant-loop-cell : goal.invariant-loop-cell
invariant-loop-cell l = take l.cell-index l.row ++ forward l.last (drop l.cell-index l.row) ≡ forward nan l.initial.row
