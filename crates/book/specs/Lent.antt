-- The columns that a host lends to a book, as the lists that the definitions of crate `ledger` speak of.
use Rattle.std.specs.Prelude.{◌≡◌}
use Rattle.ledger.specs.Book.{Columns}
use Rattle.book.specs.declared.QuoteColumns.{QuoteColumns}

abbrev pub columns_held : QuoteColumns → Columns
columns_held c = record { strikes = c.strikes.now; expiries = c.expiries.now; volatilities = c.volatilities.now }

-- The same memory is lent on.
pub record SameColumns (a b : QuoteColumns) : Type 0 where
  pub strikes : a.strikes.ghost_name ≡ b.strikes.ghost_name
  pub expiries : a.expiries.ghost_name ≡ b.expiries.ghost_name
  pub volatilities : a.volatilities.ghost_name ≡ b.volatilities.ghost_name
