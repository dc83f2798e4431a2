-- `frames::number_of`: the number is that of the digits so far. Assumes nothing.
use mathlib.Core.Path.{◌≡◌}
use lib.ListN.{take}
use Rattle.hexlines.specs.Hex.{value}
use Rattle.frames.proofs.number_of.Given as goal

abbrev pub invariant-loop-b : goal.invariant-loop-b
invariant-loop-b l = l.number ≡ value (take l.b-index l.digits)
