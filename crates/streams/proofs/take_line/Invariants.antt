-- `streams::take_line`: what is left to take from the place on is what was to be taken at first. Assumes nothing.
use Prim.Native.Nat.{◌≤◌, max}
use mathlib.Core.Path.{◌≡◌}
use lib.ListN.{length}
use Rattle.hexlines.specs.Lines.{taken}
use Rattle.streams.proofs.take_line.Given as goal

abbrev pub invariant-loop-i : goal.invariant-loop-i
invariant-loop-i l = (taken l.line l.bytes l.i ≡ taken l.initial.line l.bytes l.from) × (l.i ≤ max l.from (length l.bytes))
