-- Document 01: "A cell (row by expiry, column by strike) counts its quotes and holds their volatilities summed in arrival order from 0.0, divided by
-- the count. .. An uncounted cell takes the nearest counted cell to its left in the row, else to its right."
use Rattle.std.specs.Prelude.{ℕ, zero, suc, ◌-◌, ◌<◌, Bool, ◌&&◌, List, [], ◌∷◌, map, ltb, eqb, length, Float, if◌then◌else◌}
use Rattle.std.proofs.Math.Option.{Option, none, some}
use Rattle.floats.specs.Operators.{decimal, ◌⊕◌, ◌⊘◌}
use Rattle.chart.specs.Quotes.{Quote}
use Rattle.chart.specs.Axis.{axis, place}

pub record Axes : Type 0 where
  pub strikes : List Float
  pub expiries : List Float

-- The axes of a list of quotes.
unfoldable pub axes : List Quote → Axes
axes qs = record { strikes = axis (map (λ (q : Quote). q.strike) qs); expiries = axis (map (λ (q : Quote). q.expiry) qs) }

-- The quote belongs to the cell of row i and column j.
abbrev pub belongs : Axes → ℕ → ℕ → Quote → Bool
belongs x i j q = eqb (place x.expiries q.expiry) i && eqb (place x.strikes q.strike) j

-- Every quote has its cell inside the axes.
abbrev pub Housed : Axes → List Quote → Type 0
Housed x [] = Unit {0}
Housed x (q ∷ qs) = (place x.expiries q.expiry < length x.expiries) × (place x.strikes q.strike < length x.strikes) × Housed x qs

-- The quotes that a cell counts, in arrival order.
unfoldable pub counted : Axes → ℕ → ℕ → List Quote → List Quote
counted x i j [] = []
counted x i j (q ∷ qs) = if belongs x i j q then q ∷ counted x i j qs else counted x i j qs

abbrev pub count : Axes → ℕ → ℕ → List Quote → ℕ
count x i j qs = length (counted x i j qs)

-- Volatilities added one after the other to a sum.
unfoldable pub added : Float → List Quote → Float
added sum [] = sum
added sum (q ∷ qs) = added (sum ⊕ q.volatility) qs

-- The mean of a counted cell.
abbrev pub mean : Axes → ℕ → ℕ → List Quote → Float
mean x i j qs = added (decimal 0 1) (counted x i j qs) ⊘ decimal (count x i j qs) 1

-- Of a row's counts c: the nearest counted column to the left of column j, and the first counted one of the n columns from j on.
unfoldable pub leftward : (ℕ → ℕ) → ℕ → Option ℕ
leftward c zero = none
leftward c (suc j) = if ltb 0 (c j) then some j else leftward c j

unfoldable pub rightward : (ℕ → ℕ) → ℕ → ℕ → Option ℕ
rightward c j zero = none
rightward c j (suc n) = if ltb 0 (c j) then some j else rightward c (suc j) n

-- The left one, else the right one. A row in use has a counted column, so the last line is never met (proofs/Housing).
abbrev pub either : Option ℕ → Option ℕ → ℕ
either (some k) right = k
either none (some k) = k
either none none = 0

-- The column whose mean column j holds, in a row of w columns: its own where it is counted.
unfoldable pub source : (ℕ → ℕ) → ℕ → ℕ → ℕ
source c w j = if ltb 0 (c j) then j else either (leftward c j) (rightward c j (w - j))

-- What the cell of row i and column j holds.
unfoldable pub cell : Axes → List Quote → ℕ → ℕ → Float
cell x qs i j = mean x i (source (λ k. count x i k qs) (length x.strikes) j) qs
