-- Offers, answers and figures as rows of numbers, for calls on lent memory: which entry is which stands here alone, and `Rows` says it of every row.
use Rattle.std.specs.Prelude.{ℕ, min, ◌≡◌, Bool, true, false, List, [], ◌∷◌, eqb, get_or, Float, Err, if◌then◌else◌}
use Rattle.std.specs.Float.{nan}
use Rattle.floats.specs.Operators.{decimal}
use Rattle.limits.specs.Checks.{none}
use Rattle.limits.specs.Outcome.{Outcome, done, refused, number_of, values_of}
use Rattle.brent.specs.declared.Solution.{Solution}
use Rattle.brent.specs.Outcome.{zeros}
use Rattle.blackscholes.specs.declared.OptionType.{OptionType}
use Rattle.blackscholes.specs.declared.OptionType.TheVariants.{Call, Put}
use Rattle.blackscholes.specs.declared.OptionParams.{OptionParams}
use Rattle.blackscholes.specs.declared.Greeks.{Greeks}
use Rattle.blackscholes.specs.Model.{price}
use Rattle.limits.specs.declared.Refusal.{Refusal}
use Rattle.chart.specs.Build.{no_lengths, outcome}
use Rattle.chart.specs.declared.Lengths.{Lengths}
use Rattle.ledger.specs.Model.{bsm, volatility, priced}
use Rattle.ledger.specs.declared.Opening.{Opening}
use Rattle.ledger.specs.declared.Book.{Book}
use Rattle.ledger.specs.declared.Money.{Money}
use Rattle.ledger.specs.declared.Offer.{Offer}
use Rattle.ledger.specs.declared.Terms.{Terms}
use Rattle.ledger.specs.declared.Terms.TheVariants.{Volatility, Price}

-- ---- an offer: a row of a price or a volatility, of a put or a call, and one of strike, expiry and value
abbrev pub kind_of : Bool → OptionType
kind_of isPut = if isPut then Put else Call

abbrev pub terms_of : Bool → Bool → Float → Terms
terms_of is_price isPut value = if is_price then Price (kind_of isPut) value else Volatility value

unfoldable pub offer_of : List Bool → List Float → Offer
offer_of kind row =
    record { strike = get_or row 0 nan; expiry = get_or row 1 nan; terms = terms_of (get_or kind 0 false) (get_or kind 1 false) (get_or row 2 nan) }

-- ---- an option, as it is passed
unfoldable pub option_of : Bool → Float → Float → Float → Float → Float → OptionParams
option_of put spot strike expiry rate volatility =
    record {
      spot = spot;
      strike = strike;
      time_to_expiry = expiry;
      risk_free_rate = rate;
      volatility = volatility;
      option_type = kind_of put;
    }

-- ---- an answer: its number (0 for accepted) and evaluations; its volatility, error, point c and the error there
unfoldable pub numbers_of : Outcome Solution → List ℕ
numbers_of o = number_of o ∷ (values_of o).evaluations ∷ []

abbrev pub figures_of : Solution → List Float
figures_of x = x.volatility ∷ x.error ∷ x.c ∷ x.c_error ∷ []

unfoldable pub evidence_of : Outcome Solution → List Float
evidence_of o = figures_of (values_of o)

-- ---- how many rows four slices have
-- "The list is as long as the shortest slice", those of the answers included.
abbrev pub shortest : ℕ → ℕ → ℕ → ℕ → ℕ
shortest a b c d = min a (min b (min c d))

-- ---- seven greeks
abbrev pub greeks_entries : Greeks → List Float
greeks_entries g = g.delta ∷ g.gamma ∷ g.theta ∷ g.vega ∷ g.rho ∷ g.vanna ∷ g.volga ∷ []

-- ---- a reading at the money: the strike that it is read at, and the volatility
abbrev pub money_entries : Money → List Float
money_entries m = m.strike ∷ m.volatility ∷ []

-- ---- a build: both axis lengths, or twice 0; and the answer that a number and two lengths stand for
abbrev pub lengths_entries : Lengths → List ℕ
lengths_entries n = n.strikes ∷ n.expiries ∷ []

unfoldable pub lengths_of : Outcome Lengths → List ℕ
lengths_of built = lengths_entries (values_of built)

unfoldable pub built_in : ℕ → List ℕ → Outcome Lengths
built_in number lengths =
    if eqb number none then done (record { strikes = get_or lengths 0 0; expiries = get_or lengths 1 0 }) else refused number no_lengths

-- ---- a record's totals: kept, refused, heard and evaluations; and the record that they stand for, after an opening
abbrev pub totals_of : Book → List ℕ
totals_of b = b.kept ∷ b.refused ∷ b.heard ∷ b.evaluations ∷ []

abbrev pub book_in : Opening → List ℕ → Book
book_in o totals =
    record {
      spot = o.spot;
      rate = o.rate;
      kept = get_or totals 0 0;
      refused = get_or totals 1 0;
      heard = get_or totals 2 0;
      evaluations = get_or totals 3 0;
    }

-- ---- what each row says
pub record Rows : Type 0 where
  -- "a strike and an expiry with a volatility, or with a call or put price": the first bool tells a price, the second a put's
  pub offered : (put : Bool) (k t v : Float) → offer_of (false ∷ put ∷ []) (k ∷ t ∷ v ∷ []) ≡ volatility k t v
  pub call : (k t market : Float) → offer_of (true ∷ false ∷ []) (k ∷ t ∷ market ∷ []) ≡ priced Call k t market
  pub put : (k t market : Float) → offer_of (true ∷ true ∷ []) (k ∷ t ∷ market ∷ []) ≡ priced Put k t market
  -- the option passed has the price that the book's model gives it
  pub call_price : (s k t r v : Float) → price (option_of false s k t r v) ≡ bsm (record { spot = s; rate = r }) Call k t v
  pub put_price : (s k t r v : Float) → price (option_of true s k t r v) ≡ bsm (record { spot = s; rate = r }) Put k t v
  -- an accepted offer's answer; a refused one's has its number, the evaluations made, and zeros
  pub numbers_found : (v e c f : Float) (n : ℕ) → numbers_of (done (record { volatility = v; error = e; c = c; c_error = f; evaluations = n })) ≡ 0 ∷ n ∷ []
  pub figures_found : (v e c f : Float) (n : ℕ)
      → evidence_of (done (record { volatility = v; error = e; c = c; c_error = f; evaluations = n })) ≡ v ∷ e ∷ c ∷ f ∷ []
  pub numbers_refused : (number n : ℕ) → numbers_of (refused number (zeros n)) ≡ number ∷ n ∷ []
  pub figures_refused : (number n : ℕ) → evidence_of (refused number (zeros n)) ≡ decimal 0 1 ∷ decimal 0 1 ∷ decimal 0 1 ∷ decimal 0 1 ∷ []
  -- "delta, gamma, theta, vega, rho, vanna, volga"
  pub greeks : (delta gamma theta vega rho vanna volga : Float)
      → greeks_entries (record { delta = delta; gamma = gamma; theta = theta; vega = vega; rho = rho; vanna = vanna; volga = volga })
      ≡ delta ∷ gamma ∷ theta ∷ vega ∷ rho ∷ vanna ∷ volga ∷ []
  pub money : (strike volatility : Float) → money_entries (record { strike = strike; volatility = volatility }) ≡ strike ∷ volatility ∷ []
  -- strikes, then expiries
  pub lengths : (strikes expiries : ℕ) → lengths_of (done (record { strikes = strikes; expiries = expiries })) ≡ strikes ∷ expiries ∷ []
  pub no_lengths : (number : ℕ) → lengths_of (refused number no_lengths) ≡ 0 ∷ 0 ∷ []
  pub refused_lengths : (why : Refusal) → lengths_of (outcome (Err why)) ≡ 0 ∷ 0 ∷ []
  pub built : (strikes expiries : ℕ) → built_in 0 (strikes ∷ expiries ∷ []) ≡ done (record { strikes = strikes; expiries = expiries })
  pub not_built : (number : ℕ) (lengths : List ℕ) → (number ≡ 0 → ⊥) → built_in number lengths ≡ refused number (record { strikes = 0; expiries = 0 })
  -- kept, refused, heard, evaluations
  pub totals : (spot rate : Float) (k r h e : ℕ)
      → totals_of (record { spot = spot; rate = rate; kept = k; refused = r; heard = h; evaluations = e }) ≡ k ∷ r ∷ h ∷ e ∷ []
  pub book : (o : Opening) (k r h e : ℕ)
      → book_in o (k ∷ r ∷ h ∷ e ∷ []) ≡ record { spot = o.spot; rate = o.rate; kept = k; refused = r; heard = h; evaluations = e }
