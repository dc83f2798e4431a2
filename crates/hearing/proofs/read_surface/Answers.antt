-- `hearing::read_surface`: the build's answer decides whether the grid is read. Assumes nothing.
use Rattle.std.proofs.Common.{rules}
use Rattle.ledger.specs.Claim.{Ledger}
use Rattle.book.specs.Lent.{columns_held}
use Rattle.limits.proofs.Float.{of_bits, round}
use Rattle.protocol.specs.Hear.{ledger, read_of}
use Rattle.hearing.proofs.Hearing.{reads_built}
use Rattle.hearing.proofs.read_surface.Goals as goal

pub returns-in_err-lengths : goal.returns-in_err-lengths
unfolding of_bits round read_of
returns-in_err-lengths c =
    let heard : Ledger = let a = c.args in ledger a.book (columns_held a.columns.now) in
    reads_built heard c.args.strike c.args.expiry _ _ _ (rw c.quotes.ensures at c.in_err-lengths.ensures.builds) (search rules)

pub returns : goal.returns
unfolding of_bits round read_of
returns c =
    let heard : Ledger = let a = c.args in ledger a.book (columns_held a.columns.now) in
    reads_built heard c.args.strike c.args.expiry _ _ _ (rw c.quotes.ensures at c.in_ok-lengths.ensures.builds) (search rules)
