-- An offer keeps the length of every column. Assumes nothing.
use mathlib.Core.Path.{◌≡◌, refl, sym, ◌∙◌}
use lib.ListN.{length, length-set}
use Rattle.limits.specs.Outcome.{Outcome, done, refused}
use Rattle.brent.specs.declared.Solution.{Solution}
use Rattle.ledger.specs.Model.{Model}
use Rattle.ledger.specs.Book.{Columns, is_short, offer_outcome, columns_after}
use Rattle.ledger.specs.Calls.{Offers}
use Rattle.ledger.specs.declared.Book.{Book}
use Rattle.ledger.specs.declared.Heard.{Heard}
use Rattle.ledger.specs.declared.Offer.{Offer}

pub record SameLengths (c c' : Columns) : Type 0 where
  pub strikes : length c'.strikes ≡ length c.strikes
  pub expiries : length c'.expiries ≡ length c.expiries
  pub volatilities : length c'.volatilities ≡ length c.volatilities

pub at_first : (c : Columns) → SameLengths c c
at_first c = record { strikes = refl; expiries = refl; volatilities = refl }

pub and_then : {a b c : Columns} → SameLengths a b → SameLengths b c → SameLengths a c
and_then s t = record { strikes = t.strikes ∙ s.strikes; expiries = t.expiries ∙ s.expiries; volatilities = t.volatilities ∙ s.volatilities }

after_lengths : (b : Book) (c : Columns) (o : Offer) (w : Outcome Solution) → SameLengths c (columns_after b c o w)
unfolding columns_after
after_lengths b c o (done x) = record { strikes = simp length-set; expiries = simp length-set; volatilities = simp length-set }
after_lengths b c o (refused n x) = at_first c

pub offer_lengths : (model : Model) (b : Book) (c₀ c : Columns) (o : Offer) (r : Heard) (c' : Columns) → Offers model b c o r c' → SameLengths c₀ c
    → SameLengths c₀ c'
offer_lengths model b c₀ c o r c' w s = and_then s (rw (sym w.columns) at (after_lengths b c o (offer_outcome model (is_short c) b o)))
