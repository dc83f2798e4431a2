use Rattle.hexlines.proofs.Writing.{one_more}
use Rattle.frames.proofs.digits_of.Goals as goal

pub loop-i-preserved : goal.loop-i-preserved
loop-i-preserved c = rw c.digit_of.ensures (one_more c.loop-i-test.true c.loop-i.invariant)
