-- What the book's calls promise: answer, record and every lent entry.
use Rattle.std.specs.Prelude.{ℕ, ◌+◌, ◌*◌, ◌≤◌, ◌<◌, length, ◌≡◌}
use Rattle.limits.specs.Outcome.{Outcome, done, refused}
use Rattle.brent.specs.declared.Solution.{Solution}
use Rattle.brent.specs.Feed.{most_evaluations}
use Rattle.blackscholes.specs.Implied.{outcome_of_implied}
use Rattle.ledger.specs.Model.{Model}
use Rattle.ledger.specs.Book.{Columns, is_short, offer_outcome, book_after, columns_after}
use Rattle.ledger.specs.declared.Book.{Book}
use Rattle.ledger.specs.declared.Heard.{Heard}
use Rattle.ledger.specs.declared.Offer.{Offer}

-- The answer is that outcome, and the record what the outcome makes of it.
pub record Replies (o : Outcome Solution) (b : Book) (r : Heard) : Type 0 where
  pub outcome : outcome_of_implied r.answer ≡ o
  pub book : r.book ≡ book_after b o

-- An offer: c are the columns at entry, c' at exit.
pub record Offers (model : Model) (b : Book) (c : Columns) (o : Offer) (r : Heard) (c' : Columns) : Type 0 where
  pub replies : Replies (offer_outcome model (is_short c) b o) b r
  pub columns : c' ≡ columns_after b c o (offer_outcome model (is_short c) b o)

-- An entry of each column has this index.
pub record Within (at : ℕ) (c : Columns) : Type 0 where
  pub strikes : at < length c.strikes
  pub expiries : at < length c.expiries
  pub volatilities : at < length c.volatilities

-- What a solver ends with: no more evaluations than a run has, and of the numbers that are counted in the record.
abbrev pub Ended : Outcome Solution → Type 0
Ended (done x) = x.evaluations ≤ most_evaluations
Ended (refused number x) = (3 < number) × (x.evaluations ≤ most_evaluations)

-- It refused.
abbrev pub Turned : Outcome Solution → Type 0
Turned (done x) = ⊥
Turned (refused number x) = (3 < number) × (x.evaluations ≤ most_evaluations)

-- A record that has room for one offer more, and for the evaluations made.
pub record Counts (b : Book) (made : ℕ) : Type 0 where
  pub hears : b.heard < 60000
  pub turned : b.refused ≤ b.heard
  pub few : b.evaluations + made ≤ most_evaluations * 60000

-- What an outcome that is counted in the record tells of it.
abbrev pub Counted : Book → Outcome Solution → Type 0
Counted b (done x) = (b.kept < 1024) × Counts b x.evaluations
Counted b (refused number x) = 3 < number → Counts b x.evaluations

-- What the solver of a price answers.
pub record Solves (o : Outcome Solution) (r : Outcome Solution) : Type 0 where
  pub outcome : r ≡ o
  pub ended : Ended r
