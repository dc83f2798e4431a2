-- `host::tell`: the number and the value are those of the answer. Assumes nothing.
use Rattle.limits.proofs.Float.{of_bits, round}
use Rattle.host.proofs.Told.{told_answer}
use Rattle.host.proofs.tell.Goals as goal

pub returns : goal.returns
unfolding of_bits round
returns c = rw (c.number_of.ensures, c.values_of.ensures) (told_answer _ _)
