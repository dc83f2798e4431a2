-- `desk::Memory::answer`: a failed read is not heard. Assumes nothing.
use Rattle.desk.proofs.Turns.{none_heard}
use Rattle.desk.proofs.Memory.answer.Goals as goal

pub returns-in-Err-clause-heard : goal.returns-in-Err-clause-heard
returns-in-Err-clause-heard c = rw c.in-Err.is (none_heard _ _)
