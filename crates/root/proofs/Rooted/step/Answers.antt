-- `root::Rooted::step`: a digit is 1 where the rest is enough for it. Assumes nothing.
use Rattle.std.proofs.Common.{arith}
use Rattle.root.proofs.Rooted.step.Goals as goal
use Rattle.root.proofs.Rooted.step.Goals.{then-self-rem, else-self-rem}

pub returns : goal.returns
returns c = elim c.if-self-rem.branch [ then-self-rem w ↦ simp w.result-is (omega arith) | else-self-rem w ↦ rw w.result-is (omega arith) ]
