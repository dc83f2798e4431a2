-- `hearing::answer`: what the book made of an offer. The other arms have no answer here. Assumes nothing.
use Rattle.ledger.specs.Claim.{Ledger}
use Rattle.book.specs.Lent.{columns_held}
use Rattle.protocol.specs.Hear.{ledger, answers}
use Rattle.hearing.proofs.Hearing.{offered}
use Rattle.hearing.proofs.answer.Goals as goal

pub returns-in-Quote-clause-answers : goal.returns-in-Quote-clause-answers
unfolding answers
returns-in-Quote-clause-answers c =
    let before : Ledger = let a = c.args in ledger a.book (columns_held a.columns.now) in
    rw c.in-Quote.is (offered before _ c.offer.result _ _ c.offer.ensures.offers c.from.ensures)
