-- `batch::quote_tray`: the opening, the list by `hear_all`, and the build; demand 3's claim says what they are. Assumes nothing.
use Rattle.std.proofs.lemmas.Result.{err_from_is_err_and}
use Rattle.trays.proofs.Trays.{shut_tray, quoted_tray}
use Rattle.batch.proofs.quote_tray.Goals as goal

pub returns-in_err-fresh-clause-quotes : goal.returns-in_err-fresh-clause-quotes
returns-in_err-fresh-clause-quotes c =
    let p = err_from_is_err_and c.from_residual.result c.from_residual.ensures.1 in
    rw (p.1, p.2) (shut_tray _ _ _ _ c.in_err-fresh.ensures)

pub returns-clause-quotes : goal.returns-clause-quotes
returns-clause-quotes c =
    let built = rw c.quotes.ensures at c.build-built.ensures.builds in
    quoted_tray _ _ _ _ _ _ _ _ _ c.build-built.result _ c.in_ok-fresh.ensures c.hear_all-book.ensures.hears built
