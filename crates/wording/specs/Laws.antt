-- What holds of the words, whatever the code does: where each figure of an answer stands, and what each name asks.
use Prim.Native.String.{String}
use Rattle.std.specs.Prelude.{ℕ, ◌≡◌, ◌<◌, true, false, List, [], ◌∷◌, length, Float, Some, None, codes}
use Rattle.std.specs.Float.{binary64}
use Rattle.std.specs.Float.Ieee.{to_bits, of_bits}
use Rattle.floats.specs.Operators.{decimal}
use Rattle.limits.specs.Ranges.{is_price}
use Rattle.limits.specs.Outcome.{done, refused, number_of, values_of}
use Rattle.brent.specs.Outcome.{zeros}
use Rattle.blackscholes.specs.declared.OptionType.{OptionType}
use Rattle.blackscholes.specs.declared.OptionType.TheVariants.{Call, Put}
use Rattle.blackscholes.specs.declared.OptionParams.{OptionParams}
use Rattle.blackscholes.specs.Checks.{pricing}
use Rattle.chart.specs.Build.{no_lengths}
use Rattle.ledger.specs.Model.{volatility, priced}
use Rattle.ledger.specs.Money.{no_money}
use Rattle.wording.specs.declared.Request.TheVariants.{Open, Offer, Build, Read, Money, Price, Greeks, Ends}
use Rattle.wording.specs.Words.{value_words, money_words, offer_words, greeks_words, build_words, cell_words, ends_words}
use Rattle.wording.specs.Requests.{request_of}

-- A float as its word, and a word as its float.
abbrev pub word_of : Float → ℕ
word_of x = to_bits binary64 x

abbrev pub float_of : ℕ → Float
float_of n = of_bits binary64 n

abbrev pub option_at : OptionType → Float → Float → Float → Float → Float → OptionParams
option_at kind s k t r v =
    record { spot = s; strike = k; time_to_expiry = t; risk_free_rate = r; volatility = v; option_type = kind }

-- A line of this name with another count of words asks nothing.
abbrev pub takes_just : ℕ → String → Type 0
takes_just n name = (xs : List ℕ) → (length xs ≡ n → ⊥) → request_of (codes name) xs ≡ None

pub record Laws : Type 0 where
  -- an offer: number, evaluations, volatility, error, point c, the error there
  pub offer_found : (v e c f : Float) (n : ℕ)
      → offer_words (done (record { volatility = v; error = e; c = c; c_error = f; evaluations = n }))
      ≡ 0 ∷ n ∷ word_of v ∷ word_of e ∷ word_of c ∷ word_of f ∷ []
  pub offer_refused : (number n : ℕ) → offer_words (refused number (zeros n)) ≡ number ∷ n ∷ 0 ∷ 0 ∷ 0 ∷ 0 ∷ []
  -- a price or a reading, the greeks, a cell
  pub value : (v : Float) → value_words (done v) ≡ 0 ∷ word_of v ∷ []
  pub money : (strike volatility : Float)
      → money_words (done (record { strike = strike; volatility = volatility })) ≡ 0 ∷ word_of strike ∷ word_of volatility ∷ []
  pub no_money_lem : (number : ℕ) → money_words (refused number no_money) ≡ number ∷ 0 ∷ 0 ∷ []
  pub greeks : (delta gamma theta vega rho vanna volga : Float)
      → greeks_words (done (record { delta = delta; gamma = gamma; theta = theta; vega = vega; rho = rho; vanna = vanna; volga = volga }))
      ≡ 0 ∷ word_of delta ∷ word_of gamma ∷ word_of theta ∷ word_of vega ∷ word_of rho ∷ word_of vanna ∷ word_of volga ∷ []
  pub cell : (v : Float) (count : ℕ) → cell_words v count ≡ word_of v ∷ count ∷ []
  -- a build: number, strikes, expiries
  pub built : (strikes expiries : ℕ) → build_words (done (record { strikes = strikes; expiries = expiries })) ≡ 0 ∷ strikes ∷ expiries ∷ []
  pub not_built : (number : ℕ) → build_words (refused number no_lengths) ≡ number ∷ 0 ∷ 0 ∷ []
  -- the prices at 0.000001 and at 10, in this order; 5 where no solver starts
  pub no_ends : (market : Float) (p : OptionParams) → is_price market ≡ false → ends_words market p ≡ 5 ∷ 0 ∷ 0 ∷ []
  pub ends : (market s k t r v : Float) (kind : OptionType) → is_price market ≡ true → ends_words market (option_at kind s k t r v)
      ≡ number_of (pricing (option_at kind s k t r (decimal 1 1000000)))
      ∷ word_of (values_of (pricing (option_at kind s k t r (decimal 1 1000000))))
      ∷ word_of (values_of (pricing (option_at kind s k t r (decimal 10 1))))
      ∷ []
  -- what is asked of the book and its surface
  pub asks_open : (s r : ℕ) → request_of (codes "open  ") (s ∷ r ∷ []) ≡ Some (Open (record { spot = float_of s; rate = float_of r }))
  pub asks_call : (k t m : ℕ) → request_of (codes "call  ") (k ∷ t ∷ m ∷ []) ≡ Some (Offer (priced Call (float_of k) (float_of t) (float_of m)))
  pub asks_put : (k t m : ℕ) → request_of (codes "put   ") (k ∷ t ∷ m ∷ []) ≡ Some (Offer (priced Put (float_of k) (float_of t) (float_of m)))
  pub asks_vol : (k t v : ℕ) → request_of (codes "vol   ") (k ∷ t ∷ v ∷ []) ≡ Some (Offer (volatility (float_of k) (float_of t) (float_of v)))
  pub asks_build : request_of (codes "build ") [] ≡ Some Build
  pub asks_read : (k t : ℕ) → request_of (codes "read  ") (k ∷ t ∷ []) ≡ Some (Read (float_of k) (float_of t))
  pub asks_money : (t : ℕ) → request_of (codes "money ") (t ∷ []) ≡ Some (Money (float_of t))
  -- and of the model: the first word is 0 for a call, 1 for a put
  pub asks_price : (s k t r v : ℕ) → request_of (codes "price ") (0 ∷ s ∷ k ∷ t ∷ r ∷ v ∷ [])
      ≡ Some (Price (option_at Call (float_of s) (float_of k) (float_of t) (float_of r) (float_of v)))
  pub asks_greeks : (s k t r v : ℕ) → request_of (codes "greeks") (1 ∷ s ∷ k ∷ t ∷ r ∷ v ∷ [])
      ≡ Some (Greeks (option_at Put (float_of s) (float_of k) (float_of t) (float_of r) (float_of v)))
  pub asks_ends : (k t m : ℕ) → request_of (codes "ends  ") (1 ∷ k ∷ t ∷ m ∷ []) ≡ Some (Ends Put (float_of k) (float_of t) (float_of m))
  -- a name with one other character, wherever it stands, asks nothing; nor does another kind than 0 or 1, or a word too few or too many
  pub misspelt : (xs : List ℕ) → (request_of (codes "xreeks") xs ≡ None)
      × (request_of (codes "gxeeks") xs ≡ None)
      × (request_of (codes "grxeks") xs ≡ None)
      × (request_of (codes "grexks") xs ≡ None)
      × (request_of (codes "greexs") xs ≡ None)
      × (request_of (codes "greekx") xs ≡ None)
  pub no_kind : (s k t r v : ℕ) → request_of (codes "greeks") (2 ∷ s ∷ k ∷ t ∷ r ∷ v ∷ []) ≡ None
  pub too_few : (s k t r : ℕ) → request_of (codes "greeks") (1 ∷ s ∷ k ∷ t ∷ r ∷ []) ≡ None
  pub too_many : (s k t r v x : ℕ) (xs : List ℕ) → request_of (codes "greeks") (1 ∷ s ∷ k ∷ t ∷ r ∷ v ∷ x ∷ xs) ≡ None
  pub no_kind_of_price : (s k t r v : ℕ) → request_of (codes "price ") (2 ∷ s ∷ k ∷ t ∷ r ∷ v ∷ []) ≡ None
  pub no_kind_of_ends : (k t m : ℕ) → request_of (codes "ends  ") (2 ∷ k ∷ t ∷ m ∷ []) ≡ None
  -- nor any word above 1, of each name that has a kind
  pub kinds_of_price : (p s k t r v : ℕ) → 1 < p → request_of (codes "price ") (p ∷ s ∷ k ∷ t ∷ r ∷ v ∷ []) ≡ None
  pub kinds_of_greeks : (p s k t r v : ℕ) → 1 < p → request_of (codes "greeks") (p ∷ s ∷ k ∷ t ∷ r ∷ v ∷ []) ≡ None
  pub kinds_of_ends : (p k t m : ℕ) → 1 < p → request_of (codes "ends  ") (p ∷ k ∷ t ∷ m ∷ []) ≡ None
  -- another count of words, fewer or more, of each name
  pub words_of_open : takes_just 2 "open  "
  pub words_of_call : takes_just 3 "call  "
  pub words_of_put : takes_just 3 "put   "
  pub words_of_vol : takes_just 3 "vol   "
  pub words_of_build : takes_just 0 "build "
  pub words_of_read : takes_just 2 "read  "
  pub words_of_money : takes_just 1 "money "
  pub words_of_price : takes_just 6 "price "
  pub words_of_greeks : takes_just 6 "greeks"
  pub words_of_ends : takes_just 4 "ends  "
