-- `batch::hear_all`: what is left of the list, heard from where the book stands, ends where the whole list does. Assumes nothing.
use Rattle.ledger.specs.Model.{bsm}
use Rattle.ledger.specs.Fold.{after, along}
use Rattle.ledger.specs.Claim.{Ledger, hear, reply}
use Rattle.trays.specs.Tray.{offers, handed_out}
use Rattle.trays.proofs.Listening.{Going}
use Rattle.book.specs.Lent.{columns_held, SameColumns}
use Rattle.batch.specs.Lent.{answers_in, SameAnswers}
use Rattle.batch.proofs.hear_all.Given as goal

abbrev pub invariant-loop-i : goal.invariant-loop-i
invariant-loop-i l =
    SameAnswers l.answers l.initial.answers × SameColumns l.columns l.initial.columns
    × (let entry : Ledger = record { book = l.initial.b; columns = columns_held l.initial.columns } in
    let os = offers l.offers.kinds.now l.offers.figures.now l.n in
    Going l.offers.kinds.now l.offers.figures.now l.n l.i (record { book = l.b; columns = columns_held l.columns }) (answers_in l.answers)
    (after (hear bsm) entry os) (handed_out 0 (along (hear bsm) (reply bsm) entry os) (answers_in l.initial.answers)))
