-- What the private steps of a build hand to each other.
use Rattle.std.specs.Prelude.{ℕ, ◌≤◌, ◌<◌, ◌≡◌, Bool, true, List, [], ◌∷◌, T, ltb, length, get_or, Float}
use Rattle.std.specs.Float.{nan}
use Rattle.std.specs.Float.Ieee.Positive.{positive}
use Rattle.floats.specs.Operators.{decimal, ◌⊖◌, ◌⊘◌, ◌≺◌}
use Rattle.limits.specs.Checks.{first, none}
use Rattle.grid.specs.Layout.{cell_at}
use Rattle.chart.specs.Quotes.{Quote, Columns, is_short, all_in_range}
use Rattle.chart.specs.Axis.{hair, sorted_into, thinned, place}
use Rattle.chart.specs.Cells.{Axes, axes, counted, count, added, source, cell}
use Rattle.chart.specs.Meaning.{Sorted}
use Rattle.chart.specs.Build.{Buffers, table, is_wrong}

-- Two axes: columns by strike, rows by expiry.
abbrev pub axes_of : List Float → List Float → Axes
axes_of ks ts = record { strikes = ks; expiries = ts }

-- Two sorted lists that give the same axis, whatever is inserted into both.
abbrev pub Alike : List Float → List Float → Type 0
Alike us ws = (zs : List Float) → thinned (sorted_into us zs) ≡ thinned (sorted_into ws zs)

-- All are finite and above 0.
abbrev pub Pos : List Float → Type 0
Pos [] = Unit {0}
Pos (x ∷ xs) = T (positive x) × Pos xs

-- Values that a search by halves can be made in.
pub record Ascending (values : List Float) : Type 0 where
  pub positives : Pos values
  pub sorted : Sorted values

-- Where a search by halves goes left: x is not a hair above the axis value, which takes x, then, or is above it.
abbrev pub reaches : Float → Float → Bool
reaches a x = x ⊖ a ≺ hair

-- x has its place on an axis that ascends; and so have the strike and the expiry of each quote.
pub record OnAxis (axis : List Float) (x : Float) : Type 0 where
  pub ascends : Ascending axis
  pub above_zero : T (positive x)
  pub inside : place axis x < length axis

abbrev pub OnAxes : Axes → List Quote → Type 0
OnAxes x [] = Unit {0}
OnAxes x (q ∷ qs) = OnAxis x.expiries q.expiry × OnAxis x.strikes q.strike × OnAxes x qs

-- Nothing is filed yet, in any of the cells that there can be.
pub record Blank (sums : List Float) (numbers : List ℕ) : Type 0 where
  pub cells : (length sums ≡ 2048) × (length numbers ≡ 2048)
  pub sum : (p : ℕ) → p < 2048 → get_or sums p nan ≡ decimal 0 1
  pub number : (p : ℕ) → p < 2048 → get_or numbers p 0 ≡ 0

-- The sums and counts of all cells, when the quotes have been filed.
pub record Filed (x : Axes) (qs : List Quote) (sums : List Float) (numbers : List ℕ) : Type 0 where
  pub sum : (i j : ℕ) → i < 32 → j < 64 → get_or sums (cell_at i j) nan ≡ added (decimal 0 1) (counted x i j qs)
  pub number : (i j : ℕ) → i < 32 → j < 64 → get_or numbers (cell_at i j) 0 ≡ count x i j qs

-- Of a row's sums and counts: what column j holds, in a row of w columns.
unfoldable pub held : (ℕ → Float) → (ℕ → ℕ) → ℕ → ℕ → Float
held sum number w j = let k = source number w j in sum k ⊘ decimal (number k) 1

-- The cells and counts of quotes written into a grid and its counts.
pub record CellsWritten (x : Axes) (qs : List Quote) (grid : List Float) (counts : List ℕ) (grid' : List Float) (counts' : List ℕ) : Type 0 where
  pub cells : grid' ≡ table (length x.expiries) (length x.strikes) (cell x qs) grid
  pub counted : counts' ≡ table (length x.expiries) (length x.strikes) (λ i j. count x i j qs) counts

-- The checks of a build, by what is known of them on the way: whether 15 holds, and what the checks of the axes say.
abbrev pub number_by : Columns → ℕ → Bool → ℕ → ℕ
number_by c kept small rest =
    first (is_short c) 1
    (first (is_wrong c kept) 2
    (first small 15
    rest))

-- 16 and 17, of the axes' lengths.
abbrev pub axes_refusal : ℕ → ℕ → ℕ
axes_refusal strikes expiries =
    first (ltb 64 strikes) 16
    (first (ltb 32 expiries) 17
    none)

-- What a build writes that no check turned down: quotes in range, into buffers that are long enough, on their axes.
pub record Accepted (qs : List Quote) (s : Buffers) (ks ts : List Float) : Type 0 where
  pub few : length qs ≤ 1024
  pub ranged : all_in_range qs ≡ true
  pub long_strikes : 64 ≤ length s.strikes
  pub long_expiries : 32 ≤ length s.expiries
  pub long_grid : 2048 ≤ length s.grid
  pub long_counts : 2048 ≤ length s.counts
  pub narrow : length ks ≤ 64
  pub low : length ts ≤ 32
  pub strikes : ks ≡ (axes qs).strikes
  pub expiries : ts ≡ (axes qs).expiries
