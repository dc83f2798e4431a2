-- Document 01: "Build checks 1, 2, 15, 16, 17. .. Build returns both axis lengths and writes axis entries, cells and counts in use, nothing else."
use Rattle.std.specs.Prelude.{ℕ, zero, suc, ◌≡◌, Bool, not, ◌||◌, List, ◌++◌, ltb, length, drop, Float, Result}
use Rattle.limits.specs.Checks.{first, none}
use Rattle.limits.specs.Outcome.{Outcome, answered, unless_refused}
use Rattle.grid.specs.Layout.{cell_at, values, partly}
use Rattle.chart.specs.Quotes.{Quote, Columns, quotes, is_short, all_in_range}
use Rattle.chart.specs.Cells.{Axes, axes, count, cell}
use Rattle.limits.specs.Refusals.{outcome_with}
use Rattle.limits.specs.declared.Refusal.{Refusal}
use Rattle.chart.specs.declared.Lengths.{Lengths}

-- The values in the front of a list, and the rest of it as it was.
abbrev pub front : List Float → List Float → List Float
front xs was = xs ++ drop (length xs) was

-- The lent surface: both axes, the cells, their counts.
pub record Buffers : Type 0 where
  pub strikes : List Float
  pub expiries : List Float
  pub grid : List Float
  pub counts : List ℕ

abbrev pub buffers_of : List Float → List Float → List Float → List ℕ → Buffers
buffers_of strikes expiries grid counts = record { strikes = strikes; expiries = expiries; grid = grid; counts = counts }

-- f i j at 64 × i + j for each row i below `rows` and column j below `columns`, and the list as it was elsewhere.
unfoldable pub table : {X : Type 0} → ℕ → ℕ → (ℕ → ℕ → X) → List X → List X
table zero columns f was = was
table (suc i) columns f was = partly (λ row. values (f i) columns 0) (cell_at i 0) columns (table i columns f was)

-- 2: more quotes than a column can keep, or one out of range.
unfoldable pub is_wrong : Columns → ℕ → Bool
is_wrong c kept = ltb 1024 kept || not (all_in_range (quotes c kept))

-- 15: a buffer is too short for the largest surface.
unfoldable pub is_small : Buffers → Bool
is_small s =
    ltb (length s.strikes) 64 || ltb (length s.expiries) 32 || ltb (length s.grid) 2048 || ltb (length s.counts) 2048

-- The checks of a build of the columns' first `kept` quotes.
unfoldable pub refusal : Columns → ℕ → Buffers → ℕ
refusal c kept s =
    let x = axes (quotes c kept) in
    first (is_short c) 1
    (first (is_wrong c kept) 2
    (first (is_small s) 15
    (first (ltb 64 (length x.strikes)) 16
    (first (ltb 32 (length x.expiries)) 17
    none))))

-- What an accepted build returns, and what stands beside a number.
abbrev pub lengths : Axes → Lengths
lengths x = record { strikes = length x.strikes; expiries = length x.expiries }

abbrev pub no_lengths : Lengths
no_lengths = record { strikes = 0; expiries = 0 }

-- The answer in document 01's terms.
abbrev pub outcome : Result Lengths Refusal → Outcome Lengths
outcome answer = outcome_with no_lengths answer

-- What an accepted build of the quotes makes of the lent buffers.
abbrev pub surface_of : List Quote → Buffers → Buffers
surface_of qs s =
    let x = axes qs in
    let rows = length x.expiries in
    let columns = length x.strikes in
    record {
      strikes = front x.strikes s.strikes;
      expiries = front x.expiries s.expiries;
      grid = table rows columns (cell x qs) s.grid;
      counts = table rows columns (λ i j. count x i j qs) s.counts;
    }

-- What a build leaves whose checks give this number: s are the buffers at entry, s' at exit.
pub record BuildsTo (number : ℕ) (qs : List Quote) (s : Buffers) (answer : Outcome Lengths) (s' : Buffers) : Type 0 where
  pub answers : answer ≡ answered number no_lengths (lengths (axes qs))
  pub buffers : s' ≡ unless_refused number (surface_of qs s) s

-- A build of the columns' first `kept` quotes.
abbrev pub Builds : Columns → ℕ → Buffers → Outcome Lengths → Buffers → Type 0
Builds c kept s answer s' = BuildsTo (refusal c kept s) (quotes c kept) s answer s'
