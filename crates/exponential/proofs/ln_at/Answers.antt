-- `exponential::ln_at`: e is small enough to be a float, and the sum over the table is `horner`'s. Assumes nothing.
use Rattle.std.proofs.Common.{refl, ◌∙◌, arith}
use Rattle.elementary.proofs.Reciprocals.{sum_L}
use Rattle.exponential.proofs.Definitions.{opened}
use Rattle.exponential.proofs.Words.{back}
use Rattle.exponential.proofs.ln_at.Goals as goal

pub returns : goal.returns
unfolding opened
returns c =
    let e = c.args.e in
    rw (c.horner-q.ensures ∙ sum_L _ c.table_l.ensures _, back e e refl (omega arith))
