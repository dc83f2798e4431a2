-- Document 01, 'What demand 3 compares': the plain tally. It is fed the opening's inputs, whether 1 holds of the columns, and each offer's inputs; it
-- reads no answer and nothing of a record. "Another model changes only" the prices.
use Rattle.std.specs.Prelude.{ℕ, ◌+◌, Bool, false, not, ◌||◌, List, [], ◌∷◌, ◌++◌, leb, length, Float, if◌then◌else◌}
use Rattle.limits.specs.Ranges.{is_price, is_strike, is_expiry, is_volatility}
use Rattle.limits.specs.Outcome.{done, refused}
use Rattle.brent.specs.Outcome.{Reply, asking, ended}
use Rattle.brent.specs.Run.{run_with}
use Rattle.chart.specs.Quotes.{Quote}
use Rattle.blackscholes.specs.declared.OptionType.{OptionType}
use Rattle.ledger.specs.Fold.{after}
use Rattle.ledger.specs.Model.{Model}
use Rattle.ledger.specs.declared.Opening.{Opening}
use Rattle.ledger.specs.declared.Offer.{Offer}
use Rattle.ledger.specs.declared.Terms.{Terms}
use Rattle.ledger.specs.declared.Terms.TheVariants.{Volatility, Price}

-- What becomes of an offer once 1 to 4 are passed: its quote is listed with this volatility, or it is turned down. Beside it, the prices obtained.
pub data Fate : Type 0 where
  listed : Float → ℕ → Fate
  turned : ℕ → Fate

-- A check past 4 holds, the solver's apart: 5, 7, 8 or 10. Of its own words, so that the book's have a second witness.
abbrev is_no_price : Terms → Bool
is_no_price (Volatility v) = false
is_no_price (Price kind market) = not (is_price market)

abbrev is_no_volatility : Terms → Bool
is_no_volatility (Volatility v) = not (is_volatility v)
is_no_volatility (Price kind market) = false

unfoldable pub is_barred : Offer → Bool
is_barred o = is_no_price o.terms || not (is_strike o.strike) || not (is_expiry o.expiry) || is_no_volatility o.terms

-- A solver's run: each price that it obtained counts. (It always ends: brent's theorem.)
unfoldable pub fate_of_run : Reply → ℕ → Fate
fate_of_run (ended (done x) s) obtained = listed x.volatility obtained
fate_of_run (ended (refused number x) s) obtained = turned obtained
fate_of_run (asking v s) obtained = turned obtained

-- "A solver starts only where no earlier check holds."
unfoldable pub fate_of : (OptionType → Float → Float) → Terms → Fate
unfolding fate_of_run
fate_of prices (Volatility v) = listed v 0
fate_of prices (Price kind market) = let r = run_with market (prices kind) in fate_of_run r.reply (length r.tried)

unfoldable pub fate : Model → Opening → Offer → Fate
unfolding is_barred fate_of
fate model opening o = if is_barred o then turned 0 else fate_of (λ kind. model opening kind o.strike o.expiry) o.terms

-- "It holds a list of quotes, first empty, and heard, refused and evaluations, first 0."
pub record Tally : Type 0 where
  pub quotes : List Quote
  pub heard : ℕ
  pub refused : ℕ
  pub evaluations : ℕ

abbrev pub fresh : Tally
fresh = record { quotes = []; heard = 0; refused = 0; evaluations = 0 }

-- "Either way each price its solver obtained adds one to evaluations."
unfoldable pub turned_down : Tally → ℕ → Tally
turned_down t obtained = record { quotes = t.quotes; heard = t.heard + 1; refused = t.refused + 1; evaluations = t.evaluations + obtained }

-- The quote of an offer, with the volatility offered or solved.
abbrev pub quote_of : Offer → Float → Quote
quote_of o v = record { strike = o.strike; expiry = o.expiry; volatility = v }

unfoldable pub listed_at : Tally → Offer → Float → ℕ → Tally
listed_at t o v obtained =
    record {
      quotes = t.quotes ++ (quote_of o v ∷ []);
      heard = t.heard + 1;
      refused = t.refused;
      evaluations = t.evaluations + obtained;
    }

unfoldable pub accounted : Tally → Offer → Fate → Tally
unfolding turned_down listed_at
accounted t o (listed v obtained) = listed_at t o v obtained
accounted t o (turned obtained) = turned_down t obtained

-- "Where 1 holds, or with 60,000 heard, an offer changes nothing. Any other offer adds one to heard. With 1,024 quotes in the list .. it adds one to refused."
unfoldable pub step : Model → Opening → Bool → Tally → Offer → Tally
unfolding accounted fate turned_down
step model opening short t o =
    if short || leb 60000 t.heard then t
    else (if leb 1024 (length t.quotes) then turned_down t 0
    else accounted t o (fate model opening o))

-- The tally of a list of offers.
abbrev pub tally : Model → Opening → Bool → List Offer → Tally
tally model opening short os = after (step model opening short) fresh os
