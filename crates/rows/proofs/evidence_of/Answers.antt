-- `rows::evidence_of`: the zeros of a refusal, as the code writes them. Assumes nothing.
use Rattle.limits.proofs.Float.{of_bits, round}
use Rattle.brent.specs.Outcome.{zeros}
use Rattle.ledger.specs.Rows.{evidence_of}
use Rattle.rows.proofs.evidence_of.Goals as goal

pub returns-in-Err : goal.returns-in-Err
unfolding evidence_of zeros of_bits round
returns-in-Err g c = rw c.in-Err.is
