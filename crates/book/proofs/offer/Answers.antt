-- `book::offer`: an offer that was found passed every check, so that index kept is in the columns. Assumes nothing.
use mathlib.Core.Path.{sym, ap, ◌∙◌}
use Rattle.brent.specs.Outcome.{outcome_of_implied}
use Rattle.ledger.specs.Book.{is_short}
use Rattle.ledger.specs.Model.{bsm}
use Rattle.verdicts.proofs.Offering.{kept_within}
use Rattle.book.specs.Lent.{columns_held}
use Rattle.book.proofs.offer.Goals as goal

pub file-requires : goal.file-requires
unfolding outcome_of_implied
file-requires c =
    let a = c.args in
    let found = ap outcome_of_implied (sym c.in-Ok.is) ∙ c.decide-heard.ensures.outcome in
    kept_within bsm a.book (columns_held a.columns.now) a.offer _ (rw (c.is_short.ensures, c.quotes.ensures) at found)
