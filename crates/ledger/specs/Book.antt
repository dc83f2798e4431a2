-- Document 01, 'The quote book': what each call answers, and what it does to the record and the columns, for every record and columns a caller can pass.
use Rattle.std.specs.Prelude.{ℕ, ◌+◌, ◌*◌, Bool, not, ◌||◌, leb, ltb, eqb, set, Float, Result, Ok, Err, if◌then◌else◌}
use Rattle.floats.specs.Operators.{decimal}
use Rattle.limits.specs.Ranges.{is_spot, is_strike, is_expiry, is_rate}
use Rattle.limits.specs.Checks.{first, none}
use Rattle.limits.specs.Outcome.{Outcome, done, refused, answered}
use Rattle.brent.specs.declared.Solution.{Solution}
use Rattle.brent.specs.Outcome.{Reply, asking, ended, zeros}
use Rattle.brent.specs.Feed.{most_evaluations}
use Rattle.brent.specs.Run.{run_with}
pub use Rattle.chart.specs.Quotes.{Columns, columns_of}
unfoldable pub use Rattle.chart.specs.Quotes.{is_short}
use Rattle.blackscholes.specs.declared.OptionType.{OptionType}
use Rattle.ledger.specs.Model.{Model, prices_of, bad_price, bad_volatility}
use Rattle.ledger.specs.declared.Opening.{Opening}
use Rattle.ledger.specs.declared.Book.{Book}
use Rattle.ledger.specs.declared.Offer.{Offer}
use Rattle.ledger.specs.declared.Terms.{Terms}
use Rattle.ledger.specs.declared.Terms.TheVariants.{Volatility, Price}
use Rattle.limits.specs.Refusals.{number}
use Rattle.ledger.specs.declared.Unopened.{Unopened}

-- ---- the record, and the columns that are lent
abbrev pub opening_of : Book → Opening
opening_of b = record { spot = b.spot; rate = b.rate }

-- "A fresh book is the record an accepted opening returns, all counts 0."
abbrev pub fresh : Opening → Book
fresh o = record { spot = o.spot; rate = o.rate; kept = 0; refused = 0; heard = 0; evaluations = 0 }

-- The record of a refused opening.
abbrev pub zero_book : Book
zero_book = fresh (record { spot = decimal 0 1; rate = decimal 0 1 })

-- ---- the opening
unfoldable pub open_refusal : Opening → ℕ
open_refusal o =
    first (not (is_spot o.spot)) 6
    (first (not (is_rate o.rate)) 9
    none)

unfoldable pub opened : Opening → Outcome Book
unfolding open_refusal
opened o = answered (open_refusal o) zero_book (fresh o)

-- "A refused opening returns a record of zeros."
abbrev pub outcome_of_opening : Result Book Unopened → Outcome Book
outcome_of_opening (Ok book) = done book
outcome_of_opening (Err unopened) = refused (number unopened.refusal) unopened.book

-- ---- the checks of every offer
-- 1 is `is_short` of the columns; by their lengths:
abbrev pub shorter : ℕ → ℕ → ℕ → Bool
shorter strikes expiries volatilities = ltb strikes 1024 || ltb expiries 1024 || ltb volatilities 1024

-- 2. The record is out of bounds.
unfoldable pub is_broken : Book → Bool
is_broken b =
    ltb 1024 b.kept
    || not (eqb (b.kept + b.refused) b.heard)
    || ltb 60000 b.heard
    || ltb (most_evaluations * b.heard) b.evaluations
    || not (is_spot b.spot)
    || not (is_rate b.rate)

-- The offer's own: 5, 7, 8, 10.
unfoldable pub own_refusal : Offer → ℕ
own_refusal o =
    first (bad_price o.terms) 5
    (first (not (is_strike o.strike)) 7
    (first (not (is_expiry o.expiry)) 8
    (first (bad_volatility o.terms) 10
    none)))

-- 1 to 4, then the offer's own. `short` says whether 1 holds of the columns.
unfoldable pub offer_refusal : Bool → Book → Offer → ℕ
unfolding own_refusal
offer_refusal short b o =
    first short 1
    (first (is_broken b) 2
    (first (leb 60000 b.heard) 3
    (first (leb 1024 b.kept) 4
    (own_refusal o))))

-- ---- what an offer answers
-- What a run ended with. (It always ends: brent's theorem, so that the last line is never met.)
unfoldable pub end_of : Reply → Outcome Solution
end_of (ended o s) = o
end_of (asking v s) = refused none (zeros 0)

-- "An offered volatility returns itself, with error, point c and its error 0.0 and evaluations 0"; a price, what its solver ends with.
unfoldable pub answer_to : (OptionType → Float → Float) → Terms → Outcome Solution
unfolding end_of
answer_to prices (Volatility v) = done (record { volatility = v; error = decimal 0 1; c = decimal 0 1; c_error = decimal 0 1; evaluations = 0 })
answer_to prices (Price kind market) = end_of (run_with market (prices kind)).reply

abbrev pub answer : Model → Opening → Offer → Outcome Solution
answer model opening o = answer_to (prices_of model opening o) o.terms

unfoldable pub offer_outcome : Model → Bool → Book → Offer → Outcome Solution
unfolding offer_refusal
offer_outcome model short b o =
    if eqb (offer_refusal short b o) none then answer model (opening_of b) o else refused (offer_refusal short b o) (zeros 0)

-- ---- what it does to the record and the columns
-- An accepted offer "adds one to kept and heard, adds the solver's evaluations"; "1 to 3 keep the book record; 4, 5, 7, 8 and 10 to 14, met by an offer,
-- add one to heard and refused and add the evaluations made." (14 left with S-10.)
abbrev pub kept_book : Book → ℕ → Book
kept_book b made = record { spot = b.spot; rate = b.rate; kept = b.kept + 1; refused = b.refused; heard = b.heard + 1; evaluations = b.evaluations + made }

abbrev pub turned_book : Book → ℕ → Book
turned_book b made =
    record { spot = b.spot; rate = b.rate; kept = b.kept; refused = b.refused + 1; heard = b.heard + 1; evaluations = b.evaluations + made }

unfoldable pub book_after : Book → Outcome Solution → Book
book_after b (done x) = kept_book b x.evaluations
book_after b (refused number x) = if leb number 3 then b else turned_book b x.evaluations

-- "An accepted one is written at index kept of the three columns, nothing else."
abbrev pub filed : ℕ → Offer → Float → Columns → Columns
filed at o v c =
    record {
      strikes = set c.strikes at o.strike;
      expiries = set c.expiries at o.expiry;
      volatilities = set c.volatilities at v;
    }

unfoldable pub columns_after : Book → Columns → Offer → Outcome Solution → Columns
columns_after b c o (done x) = filed b.kept o x.volatility c
columns_after b c o (refused number x) = c
