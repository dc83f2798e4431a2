-- Demand 3, "a single claim on the list and its build": for every model, accepted opening, columns and buffers of any content and length, and list of
-- offers. A field for each sentence.
use Rattle.std.specs.Prelude.{ℕ, ◌+◌, ◌≤◌, ◌<◌, ◌≡◌, Bool, true, false, not, ◌||◌, ltb, leb, eqb, length, take, drop, get_or, Float, if◌then◌else◌}
use mathlib.Core.List.{List, [], ◌∷◌, ◌++◌, Memᴰ, map}
use Rattle.std.specs.Float.{nan}
use Rattle.floats.specs.Operators.{decimal, ◌⊖◌}
use Rattle.limits.specs.Ranges.{is_price, is_spot, is_rate, is_strike, is_expiry, is_volatility}
use Rattle.limits.specs.Checks.{first, none}
use Rattle.limits.specs.Outcome.{Outcome, done, refused, is_done, number_of, values_of, answered}
use Rattle.brent.specs.declared.Solution.{Solution}
use Rattle.brent.specs.Outcome.{Reply, asking, ended, zeros}
use Rattle.brent.specs.Feed.{over}
use Rattle.brent.specs.Run.{run_with}
use Rattle.brent.specs.Claim.{Success}
use Rattle.grid.specs.Layout.{cell_at}
use Rattle.chart.specs.Quotes.{Quote}
use Rattle.chart.specs.Axis.{place}
use Rattle.chart.specs.Cells.{axes, count, mean}
use Rattle.chart.specs.Meaning.{sum_to}
use Rattle.chart.specs.Build.{lengths, no_lengths}
use Rattle.chart.specs.declared.Lengths.{Lengths}
use Rattle.blackscholes.specs.declared.OptionType.{OptionType}
use Rattle.ledger.specs.Model.{Model}
use Rattle.ledger.specs.declared.Opening.{Opening}
use Rattle.ledger.specs.Fold.{after, along, Each}
use Rattle.ledger.specs.Tally.{Tally, fresh as noQuotes, quote_of, step, tally}
use Rattle.ledger.specs.Book.{Columns, opening_of, fresh, open_refusal, opened, is_short, is_broken, offer_outcome, book_after, columns_after}
use Rattle.ledger.specs.Build.{Buffers, quotes_of, build_outcome, buffers_after}
use Rattle.ledger.specs.declared.Book.{Book}
use Rattle.ledger.specs.declared.Offer.{Offer}
use Rattle.ledger.specs.declared.Terms.{Terms}
use Rattle.ledger.specs.declared.Terms.TheVariants.{Volatility, Price}

-- ---- a book that hears a list: "Each offer gets the record and columns as the last left them; nobody else writes the columns."
pub record Ledger : Type 0 where
  pub book : Book
  pub columns : Columns

unfoldable pub hear : Model → Ledger → Offer → Ledger
hear model l o =
    let outcome = offer_outcome model (is_short l.columns) l.book o in
    record { book = book_after l.book outcome; columns = columns_after l.book l.columns o outcome }

-- What an offer is answered.
abbrev pub reply : Model → Ledger → Offer → Outcome Solution
reply model l o = offer_outcome model (is_short l.columns) l.book o

-- The list of quotes after an offer, by its answer: an accepted one's quote is at the end, with the volatility answered.
abbrev pub list_after : List Quote → Offer → Outcome Solution → List Quote
list_after qs o (done x) = qs ++ (quote_of o x.volatility ∷ [])
list_after qs o (refused number x) = qs

unfoldable pub sum : List ℕ → ℕ
sum [] = 0
sum (n ∷ ns) = n + sum ns

-- ---- the number of each answer, from the tally and the offer alone: the first check that holds, 2 never
-- What a solver's run ended with. (It always ends: brent's theorem.)
unfoldable pub number_of_run : Reply → ℕ
number_of_run (ended o s) = number_of o
number_of_run (asking v s) = none

unfoldable pub number_solved : (OptionType → Float → Float) → Terms → ℕ
unfolding number_of_run
number_solved prices (Volatility v) = none
number_solved prices (Price kind market) = number_of_run (run_with market (prices kind)).reply

-- 5 and 10 by terms, in the claim's own words.
abbrev lacks_price : Terms → Bool
lacks_price (Volatility v) = false
lacks_price (Price kind market) = not (is_price market)

abbrev lacks_volatility : Terms → Bool
lacks_volatility (Volatility v) = not (is_volatility v)
lacks_volatility (Price kind market) = false

-- The checks past 4: 5, 7, 8 and 10, then the solver's.
unfoldable pub number_past4 : Model → Opening → Offer → ℕ
unfolding number_solved
number_past4 model opening o =
    first (lacks_price o.terms) 5
    (first (not (is_strike o.strike)) 7
    (first (not (is_expiry o.expiry)) 8
    (first (lacks_volatility o.terms) 10
    (number_solved (λ kind. model opening kind o.strike o.expiry) o.terms))))

unfoldable pub number_from : Model → Opening → Bool → Tally → Offer → ℕ
unfolding number_past4
number_from model opening short t o =
    first short 1
    (first (leb 60000 t.heard) 3
    (first (leb 1024 (length t.quotes)) 4
    (number_past4 model opening o)))

-- ---- the evidence for each offer
-- "Each volatility solved from a price was tried; it prices within 0.000001 of the market, or it and its answer's point c, also tried, lie within
-- 0.00000101 of each other and their prices bracket the market's." `Success` is brent's; the prices are the model's.
-- An accepted offer "returns the solver's answer".
pub record Solved (market : Float) (price : Float → Float) (x : Solution) : Type 0 where
  pub answer : (run_with market price).reply ≡ ended (done x) over
  pub success : Success market x (run_with market price).tried
  pub error : x.error ≡ price x.volatility ⊖ market
  pub c_error : x.c_error ≡ price x.c ⊖ market
  pub evaluations : x.evaluations ≡ length (run_with market price).tried

-- "One for each price a solver obtained, 52 an offer at most": those of the run where its number is the answer's, none where no solver started.
pub record Unsolved (market : Float) (price : Float → Float) (number : ℕ) (x : Solution) : Type 0 where
  pub zeros : x ≡ zeros x.evaluations
  pub evaluations : x.evaluations ≡ (if eqb (number_of_run (run_with market price).reply) number then length (run_with market price).tried else 0)
  pub few : x.evaluations ≤ 52

abbrev pub EvidenceOf : (OptionType → Float → Float) → Terms → Outcome Solution → Type 0
EvidenceOf prices (Volatility v) (done x) = x ≡ record { volatility = v; error = decimal 0 1; c = decimal 0 1; c_error = decimal 0 1; evaluations = 0 }
EvidenceOf prices (Volatility v) (refused number x) = x ≡ zeros 0
EvidenceOf prices (Price kind market) (done x) = Solved market (prices kind) x
EvidenceOf prices (Price kind market) (refused number x) = Unsolved market (prices kind) number x

abbrev pub Evidence : Model → Opening → Offer → Outcome Solution → Type 0
Evidence model opening o r = EvidenceOf (λ kind. model opening kind o.strike o.expiry) o.terms r

-- ---- an answer that is right, by the tally t that its offer finds
pub record Right (model : Model) (opening : Opening) (short : Bool) (t : Tally) (o : Offer) (r : Outcome Solution) : Type 0 where
  -- "an offer was accepted exactly when its quote was listed", with the volatility answered
  pub listed : (step model opening short t o).quotes ≡ list_after t.quotes o r
  pub accepted : is_done r ≡ not (eqb (length (step model opening short t o).quotes) (length t.quotes))
  pub number : number_of r ≡ number_from model opening short t o
  -- its evaluations are those that the tally adds: "one for each price a solver obtained", none where no solver started
  pub counted : (step model opening short t o).evaluations ≡ t.evaluations + (values_of r).evaluations
  pub evidence : Evidence model opening o r

-- ---- the list
-- A column after a list: the entries of its quotes in order, then what stood there at first.
abbrev pub column_of : {X : Type 0} → (Quote → X) → List Quote → List X → List X
column_of f qs was = map f qs ++ drop (length qs) was

-- The columns c with the quotes in front: "the columns' first entries, as many as kept, are its quotes in order", every other entry is as at first.
abbrev pub holding : List Quote → Columns → Columns
holding qs c =
    record {
      strikes = column_of (λ (q : Quote). q.strike) qs c.strikes;
      expiries = column_of (λ (q : Quote). q.expiry) qs c.expiries;
      volatilities = column_of (λ (q : Quote). q.volatility) qs c.volatilities;
    }

module _ (model : Model) (opening : Opening) (c : Columns) (os : List Offer) where
  abbrev pub tallied : Tally
  tallied = tally model opening (is_short c) os

  abbrev pub first_ledger : Ledger
  first_ledger = record { book = fresh opening; columns = c }

  abbrev pub ledger : Ledger
  ledger = after (hear model) first_ledger os

  abbrev pub answers : List (Outcome Solution)
  answers = along (hear model) (reply model) first_ledger os

  -- What demand 3 asks of a book that heard the list: of its answers rs, of the record and columns that it is left with, and of the record after the
  -- first n offers.
  pub record Agrees (rs : List (Outcome Solution)) (l : Ledger) (bookAt : ℕ → Book) : Type 0 where
    pub each : Each (step model opening (is_short c)) (Right model opening (is_short c)) noQuotes os rs
    -- "kept is the list's length; the columns' first entries, as many as kept, are its quotes in order; heard, refused and evaluations are the tally's"
    pub kept : l.book.kept ≡ length tallied.quotes
    pub quotes : quotes_of l.book l.columns ≡ tallied.quotes
    pub heard : l.book.heard ≡ tallied.heard
    pub refused : l.book.refused ≡ tallied.refused
    pub evaluations : l.book.evaluations ≡ tallied.evaluations
    -- the opening's inputs stay
    pub inputs : opening_of l.book ≡ opening
    -- every entry of the columns, those at kept and later too
    pub columns : l.columns ≡ holding tallied.quotes c
    -- "2 never holds": of no record on the way
    pub never_2 : (n : ℕ) → is_broken (bookAt n) ≡ false
    -- "The reported evaluations are the sum of 01's"
    pub reported : l.book.evaluations ≡ sum (map (λ (r : Outcome Solution). (values_of r).evaluations) rs)

  -- It holds of the book.
  abbrev pub ListClaim : Type 0
  ListClaim = Agrees answers ledger (λ n. (after (hear model) first_ledger (take n os)).book)

-- ---- the build
-- "the nearest counted cell to its left in the row, else to its right"
pub data Neighbour (c : ℕ → ℕ) (w j k : ℕ) : Type 0 where
  left : k < j → 0 < c k → ((n : ℕ) → k < n → n < j → c n ≡ 0) → Neighbour c w j k
  right : ((n : ℕ) → n < j → c n ≡ 0) → j < k → k < w → 0 < c k → ((n : ℕ) → j < n → n < k → c n ≡ 0) → Neighbour c w j k

module _ (qs : List Quote) (s : Buffers) where
  -- 15, 16 and 17, of the tally's quotes: 1 is the columns', and 2 never holds.
  unfoldable pub surface_refusal : Bool → ℕ
  surface_refusal short =
      first short 1
      (first (ltb (length s.strikes) 64 || ltb (length s.expiries) 32 || ltb (length s.grid) 2048 || ltb (length s.counts) 2048) 15
      (first (ltb 64 (length (axes qs).strikes)) 16
      (first (ltb 32 (length (axes qs).expiries)) 17
      none)))

  -- The surface's rows and columns.
  abbrev pub height : ℕ
  height = length (axes qs).expiries

  abbrev pub width : ℕ
  width = length (axes qs).strikes

  abbrev pub count_at : ℕ → ℕ → ℕ
  count_at i j = count (axes qs) i j qs

  -- An accepted build, s' being the buffers at exit.
  pub record SurfaceClaim (s' : Buffers) : Type 0 where
    pub strikes : take width s'.strikes ≡ (axes qs).strikes
    pub expiries : take height s'.expiries ≡ (axes qs).expiries
    -- "counts each accepted quote once, in the cell 01 gives it, and nothing else"
    pub housed : {q : Quote} → Memᴰ q qs → (place (axes qs).expiries q.expiry < height) × (place (axes qs).strikes q.strike < width)
    pub counts : (i j : ℕ) → i < height → j < width → get_or s'.counts (cell_at i j) 0 ≡ count_at i j
    pub once : sum_to height (λ i. sum_to width (λ j. count_at i j)) ≡ length qs
    -- "counted cells hold their quotes' mean, the others 01's neighbour"
    pub means : (i j : ℕ) → i < height → j < width → 0 < count_at i j → get_or s'.grid (cell_at i j) nan ≡ mean (axes qs) i j qs
    pub neighbours : (i j : ℕ) → i < height → j < width → count_at i j ≡ 0
        → (k : ℕ) × Neighbour (λ n. count_at i n) width j k × (get_or s'.grid (cell_at i j) nan ≡ mean (axes qs) i k qs)
    -- every entry not in use is as at entry
    pub rest_strikes : drop width s'.strikes ≡ drop width s.strikes
    pub rest_expiries : drop height s'.expiries ≡ drop height s.expiries
    pub rest_grid : (n : ℕ) → ((i j : ℕ) → i < height → j < width → n ≡ cell_at i j → ⊥) → get_or s'.grid n nan ≡ get_or s.grid n nan
    pub rest_counts : (n : ℕ) → ((i j : ℕ) → i < height → j < width → n ≡ cell_at i j → ⊥) → get_or s'.counts n 0 ≡ get_or s.counts n 0
    pub same_lengths : (length s'.grid ≡ length s.grid) × (length s'.counts ≡ length s.counts)

  -- A refused build leaves every buffer as at entry; an accepted one is the surface of the tally's quotes.
  pub record BuildClaim (short : Bool) (outcome : Outcome Lengths) (s' : Buffers) : Type 0 where
    pub number : outcome ≡ answered (surface_refusal short) no_lengths (lengths (axes qs))
    pub refused : (surface_refusal short ≡ none → ⊥) → s' ≡ s
    pub surface : surface_refusal short ≡ none → SurfaceClaim s'

-- ---- the opening
-- "A fresh book is the record an accepted opening returns, all counts 0." "A refused opening returns a record of zeros."
pub record OpeningClaim (opening : Opening) (answer : Outcome Book) : Type 0 where
  pub opens : open_refusal opening ≡ none
      → answer ≡ done (record { spot = opening.spot; rate = opening.rate; kept = 0; refused = 0; heard = 0; evaluations = 0 })
  pub stays_shut : (open_refusal opening ≡ none → ⊥)
      → answer ≡ refused (open_refusal opening) (record { spot = decimal 0 1; rate = decimal 0 1; kept = 0; refused = 0; heard = 0; evaluations = 0 })
  -- 6 for the spot, then 9 for the rate, and no other
  pub by_spot : is_spot opening.spot ≡ false → number_of answer ≡ 6
  pub by_rate : is_spot opening.spot ≡ true → is_rate opening.rate ≡ false → number_of answer ≡ 9
  pub accepted : is_spot opening.spot ≡ true → is_rate opening.rate ≡ true → is_done answer ≡ true

-- ---- demand 3
pub record Demand3 (model : Model) (opening : Opening) (c : Columns) (os : List Offer) (s : Buffers) : Type 0 where
  pub list : ListClaim model opening c os
  pub build : BuildClaim (tallied model opening c os).quotes s (is_short c)
      (build_outcome (ledger model opening c os).book (ledger model opening c os).columns s)
      (buffers_after (ledger model opening c os).book (ledger model opening c os).columns s)

-- The claim: whatever the model, the columns, the list and the buffers, of a fresh book.
pub record Claim : Type 0 where
  pub opening : (opening : Opening) → OpeningClaim opening (opened opening)
  pub demand_3 : (model : Model) (opening : Opening) → open_refusal opening ≡ none → (c : Columns) (os : List Offer) (s : Buffers)
      → Demand3 model opening c os s
