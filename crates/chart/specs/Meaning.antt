-- What the rules come to for quotes in range: no quote is dropped or counted twice, no two axis values are a hair apart, no cell divides by 0, and the
-- cells are what the gap filler's sweeps make of the means.
use Rattle.std.specs.Prelude.{ℕ, zero, suc, ◌+◌, ◌≤◌, ◌<◌, ◌≡◌, true, false, ltb, length, get_or, Float, if◌then◌else◌}
use mathlib.Core.List.{List, [], ◌∷◌, map, Permᴰ}
use Rattle.std.specs.Float.{nan}
use Rattle.std.specs.Float.Ieee.{is_nan}
use Rattle.floats.specs.Operators.{◌⊖◌, ◌≺◌}
use Rattle.chart.specs.Quotes.{Quote}
use Rattle.chart.specs.Axis.{hair, sort}
use Rattle.grid.specs.Layout.{cell_at}
use Rattle.grid.specs.Readings.{is_axis}
use Rattle.gaps.specs.Gaps.{gaps_filled}
use Rattle.chart.specs.Cells.{Axes, axes, Housed, count, mean, source, cell}
use Rattle.chart.specs.Build.{Buffers, table, surface_of}

-- No value of the list is below x; and of no later one, for each value of a sorted list.
abbrev pub NoneBelow : Float → List Float → Type 0
NoneBelow x [] = Unit {0}
NoneBelow x (y ∷ ys) = (y ≺ x ≡ false) × NoneBelow x ys

abbrev pub Sorted : List Float → Type 0
Sorted [] = Unit {0}
Sorted (x ∷ xs) = NoneBelow x xs × Sorted xs

-- Each value is above the one before, and their difference is not under 1e-12.
abbrev pub SpacedAfter : Float → List Float → Type 0
SpacedAfter last [] = Unit {0}
SpacedAfter last (v ∷ vs) = (last ≺ v ≡ true) × (v ⊖ last ≺ hair ≡ false) × SpacedAfter v vs

abbrev pub Spaced : List Float → Type 0
Spaced [] = Unit {0}
Spaced (v ∷ vs) = SpacedAfter v vs

-- f 0 + .. + f (n - 1).
unfoldable pub sum_to : ℕ → (ℕ → ℕ) → ℕ
sum_to zero f = 0
sum_to (suc n) f = sum_to n f + f n

-- The counts of all cells of a surface, added up.
abbrev pub all_counts : Axes → List Quote → ℕ
all_counts x qs = sum_to (length x.expiries) (λ i. sum_to (length x.strikes) (λ j. count x i j qs))

abbrev pub source_in : Axes → List Quote → ℕ → ℕ → ℕ
source_in x qs i j = source (λ k. count x i k qs) (length x.strikes) j

-- A counted cell's mean, and a gap where nothing is counted.
unfoldable pub mean_or_gap : Axes → List Quote → ℕ → ℕ → Float
mean_or_gap x qs i j = if ltb 0 (count x i j qs) then mean x i j qs else nan

-- What the cells in use of a lent grid hold.
abbrev pub grid_of : Axes → (ℕ → ℕ → Float) → List Float → List Float
grid_of x f was = table (length x.expiries) (length x.strikes) f was

pub record Meaning (qs : List Quote) : Type 0 where
  pub strikes_sorted : Sorted (sort (map (λ (q : Quote). q.strike) qs))
  pub strikes_same : Permᴰ (sort (map (λ (q : Quote). q.strike) qs)) (map (λ (q : Quote). q.strike) qs)
  pub expiries_sorted : Sorted (sort (map (λ (q : Quote). q.expiry) qs))
  pub expiries_same : Permᴰ (sort (map (λ (q : Quote). q.expiry) qs)) (map (λ (q : Quote). q.expiry) qs)
  pub strikes_spaced : Spaced (axes qs).strikes
  pub expiries_spaced : Spaced (axes qs).expiries
  pub housed : Housed (axes qs) qs
  pub once : all_counts (axes qs) qs ≡ length qs
  pub row_counted : (i : ℕ) → i < length (axes qs).expiries → (b : ℕ) × (b < length (axes qs).strikes) × (0 < count (axes qs) i b qs)
  pub source_counted : (i j : ℕ) → i < length (axes qs).expiries → j < length (axes qs).strikes
      → (source_in (axes qs) qs i j < length (axes qs).strikes) × (0 < count (axes qs) i (source_in (axes qs) qs i j) qs)
  pub strikes_axis : 0 < length qs → is_axis (axes qs).strikes ≡ true
  pub expiries_axis : 0 < length qs → is_axis (axes qs).expiries ≡ true
  pub no_gap : length qs ≤ 1024 → (i j : ℕ) → i < length (axes qs).expiries → j < length (axes qs).strikes → is_nan (cell (axes qs) qs i j) ≡ false
  pub uncounted : (s : Buffers) → length (axes qs).strikes ≤ 64 → length (axes qs).expiries ≤ 32 → 2048 ≤ length s.counts → (i j : ℕ)
      → i < length (axes qs).expiries → j < length (axes qs).strikes → count (axes qs) i j qs ≡ 0 → get_or (surface_of qs s).counts (cell_at i j) 1 ≡ 0
  pub by_sweeps : length qs ≤ 1024 → length (axes qs).strikes ≤ 64 → length (axes qs).expiries ≤ 32 → (was : List Float) → 2048 ≤ length was
      → gaps_filled (length (axes qs).strikes) (length (axes qs).expiries) (grid_of (axes qs) (mean_or_gap (axes qs) qs) was)
      ≡ grid_of (axes qs) (cell (axes qs) qs) was
