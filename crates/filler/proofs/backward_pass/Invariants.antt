-- `filler::backward_pass`: from j on the row is the pass over what stood there, and `last` its first value. Assumes nothing.
use Rattle.gaps.proofs.Passes.{Backed}
use Rattle.filler.proofs.backward_pass.Given as goal

abbrev pub invariant-loop-j : goal.invariant-loop-j
invariant-loop-j l = Backed l.initial.row l.row l.last l.j
