-- `frames::digits_of`: the digits are written from the last to the first, as `Writing` says. Assumes nothing.
use Rattle.hexlines.proofs.Writing.{Writing}
use Rattle.frames.proofs.digits_of.Given as goal

abbrev pub invariant-loop-i : goal.invariant-loop-i
invariant-loop-i l = Writing l.n l.digits l.rest l.i
