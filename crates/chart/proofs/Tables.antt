-- A table written a row at a time. Assumes nothing.
use Prim.Native.Nat.{ℕ, suc, zero, ◌+◌, ◌*◌, ◌≤◌, ◌<◌}
use mathlib.Core.Path.{◌≡◌, refl, ◌∙◌}
use mathlib.Core.List.{List}
use native.Mathlib.Omega.{arith}
use native.Mathlib.Numerals.{add-one}
use lib.ListN.{length, take, drop, get_or}
use lib.Seq.{get_or-take, get_or-drop}
use lib.Ieee.{Float, nan}
use borrow.Rule.Slice.PartMut.{put_mid}
use Rattle.grid.specs.Layout.{cell_at, values, partly}
use Rattle.grid.proofs.Rows.{part_length}
use Rattle.grid.proofs.Values.{values_same}
use Rattle.chart.specs.Build.{table}
use Rattle.floats.specs.Operators.{decimal}
use Rattle.chart.specs.Quotes.{Quote}
use Rattle.chart.specs.Cells.{Axes, counted, count, added, cell}
use Rattle.chart.specs.Steps.{held, Filed}
use Rattle.chart.proofs.Neighbour.{held_same}

pub table_same : {X : Type 0} (f g : ℕ → ℕ → X) (rows columns : ℕ) (l : List X) → ((i j : ℕ) → i < rows → j < columns → f i j ≡ g i j)
    → table rows columns f l ≡ table rows columns g l
unfolding table
table_same f g zero columns l e = refl
table_same f g (suc i) columns l e =
    rw (values_same (f i) (g i) columns 0 (λ j h. e i j (omega arith) (omega arith)), table_same f g i columns l (λ k j h m. e k j (omega arith) m))

-- one row more, lent as a part of the list and given back; what is written may look at how wide the row is
module _ {X : Type 0} (f : ℕ → ℕ → X) (h : ℕ → ℕ → X) (g₀ g ys : List X) (i columns k : ℕ) (e : k ≡ columns) (l : 64 * i + columns ≤ length g) where
  table_step : g ≡ table i columns f g₀ → ys ≡ values (h (length (take k (drop (64 * i) g)))) (length (take k (drop (64 * i) g))) 0
      → ((j : ℕ) → j < columns → h columns j ≡ f i j) → put_mid (64 * i) k g ys ≡ table (i + 1) columns f g₀
  unfolding table partly
  table_step b y same =
      let z : 64 * i + 0 ≡ 64 * i = omega arith in
      let w : length (take k (drop (64 * i) g)) ≡ columns = rw e (part_length (64 * i) columns g l) in
      let v : ys ≡ values (f i) columns 0 = (rw w at y) ∙ values_same (h columns) (f i) columns 0 (λ j m. same j (omega arith)) in
      rw (add-one, z, v, e, b)

-- what stands at j in a part of a list
part_at : {X : Type 0} (a n j : ℕ) (xs : List X) (d : X) → j < n → get_or (take n (drop a xs)) j d ≡ get_or xs (a + j) d
part_at a n j xs d h = get_or-take n (drop a xs) j d h ∙ get_or-drop a xs j d

module _ (sums : List Float) (numbers : List ℕ) (i columns k : ℕ) (e : k ≡ columns) where
  abbrev row_held : ℕ → ℕ → Float
  row_held w = held (λ j. get_or (take k (drop (64 * i) sums)) j nan) (λ j. get_or (take k (drop (64 * i) numbers)) j 0) w

  abbrev cells_held : ℕ → ℕ → Float
  cells_held r = held (λ j. get_or sums (cell_at r j) nan) (λ j. get_or numbers (cell_at r j) 0) columns

  pub cells_step : (g₀ g ys : List Float) → 64 * i + columns ≤ length g → g ≡ table i columns cells_held g₀
      → ys ≡ values (row_held (length (take k (drop (64 * i) g)))) (length (take k (drop (64 * i) g))) 0
      → put_mid (64 * i) k g ys ≡ table (i + 1) columns cells_held g₀
  cells_step g₀ g ys l b y =
      table_step cells_held row_held g₀ g ys i columns k e l b y
      (λ j m. held_same _ _ _ _ columns j m (λ n q. part_at (64 * i) k n sums nan (rw e q)) (λ n q. part_at (64 * i) k n numbers 0 (rw e q)))

  pub counts_step : (g₀ g ys : List ℕ) → 64 * i + columns ≤ length g → g ≡ table i columns (λ r j. get_or numbers (cell_at r j) 0) g₀
      → ys ≡ values (λ j. get_or (take k (drop (64 * i) numbers)) j 0) (length (take k (drop (64 * i) g))) 0
      → put_mid (64 * i) k g ys ≡ table (i + 1) columns (λ r j. get_or numbers (cell_at r j) 0) g₀
  counts_step g₀ g ys l b y =
      table_step (λ r j. get_or numbers (cell_at r j) 0) (λ w j. get_or (take k (drop (64 * i) numbers)) j 0) g₀ g ys i columns k e l b y
      (λ j m. part_at (64 * i) k j numbers 0 (rw e m))

-- when the quotes have been filed, rows of sums and counts hold the cells
cell_held : (x : Axes) (qs : List Quote) (i j : ℕ)
    → held (λ k. added (decimal 0 1) (counted x i k qs)) (λ k. count x i k qs) (length x.strikes) j ≡ cell x qs i j
unfolding cell held
cell_held x qs i j = refl

module _ (x : Axes) (qs : List Quote) (sums : List Float) (numbers : List ℕ) (f : Filed x qs sums numbers)
    (a : length x.strikes ≤ 64) (b : length x.expiries ≤ 32) where
  pub filed_cells : (g : List Float) → table (length x.expiries) (length x.strikes)
      (λ i. held (λ k. get_or sums (cell_at i k) nan) (λ k. get_or numbers (cell_at i k) 0) (length x.strikes)) g
      ≡ table (length x.expiries) (length x.strikes) (cell x qs) g
  filed_cells g =
      table_same _ _ (length x.expiries) (length x.strikes) g (λ i j h l.
      held_same _ _ _ _ (length x.strikes) j l (λ k m. f.sum i k (omega arith) (omega arith)) (λ k m. f.number i k (omega arith) (omega arith))
      ∙ cell_held x qs i j)

  pub filed_counts : (g : List ℕ) → table (length x.expiries) (length x.strikes) (λ i k. get_or numbers (cell_at i k) 0) g
      ≡ table (length x.expiries) (length x.strikes) (λ i j. count x i j qs) g
  filed_counts g = table_same _ _ (length x.expiries) (length x.strikes) g (λ i j h l. f.number i j (omega arith) (omega arith))
