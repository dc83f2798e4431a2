-- What the filler comes to: which value a gap takes (`Takes` names no pass), rows before columns, and that nothing else is written.
use Rattle.std.specs.Prelude.{ℕ, ◌≤◌, ◌<◌, ◌≡◌, true, false, List, length, get_or, Float}
use Rattle.std.specs.Float.{nan}
use Rattle.std.specs.Float.Ieee.{is_nan}
use Rattle.grid.specs.Layout.{cell_at}
use Rattle.gaps.specs.Gaps.{rows_swept}

-- Of n places in a line, place j takes the value of place k: its own where it has one, else the nearest one before it, else the nearest after it.
pub record Takes (v : ℕ → Float) (n j k : ℕ) : Type 0 where
  pub inside : k < n
  pub value : is_nan (v k) ≡ false
  pub before : (l : ℕ) → k < l → l ≤ j → is_nan (v l) ≡ true
  pub after : j < k → (l : ℕ) → l < k → is_nan (v l) ≡ true

-- The sweeps of some lines of n cells, cell b of line a standing at `at a b`: of each cell that some cell gives a value, of a line without one, and
-- of what is no cell of theirs.
pub record SweptAlong (at : ℕ → ℕ → ℕ) (lines n : ℕ) (was is : List Float) : Type 0 where
  pub sized : length is ≡ length was
  pub elsewhere : (p : ℕ) → ((a b : ℕ) → a < lines → b < n → at a b ≡ p → ⊥) → get_or is p nan ≡ get_or was p nan
  pub takes : (a j k : ℕ) → a < lines → j < n → Takes (λ l. get_or was (at a l) nan) n j k → get_or is (at a j) nan ≡ get_or was (at a k) nan
  pub empty : (a j : ℕ) → a < lines → j < n → ((l : ℕ) → l < n → is_nan (get_or was (at a l) nan) ≡ true) → is_nan (get_or is (at a j) nan) ≡ true

-- Rows, then columns by the same sweeps: so a cell takes a value of its own row where there is one, and no gap is left where there is any value.
pub record Fills (strikes expiries : ℕ) (was is : List Float) : Type 0 where
  pub rows : SweptAlong (λ i j. cell_at i j) expiries strikes was (rows_swept expiries strikes was)
  pub columns : SweptAlong (λ j i. cell_at i j) strikes expiries (rows_swept expiries strikes was) is
  pub own_row : (i j k : ℕ) → i < expiries → j < strikes → Takes (λ l. get_or was (cell_at i l) nan) strikes j k
      → get_or is (cell_at i j) nan ≡ get_or was (cell_at i k) nan
  pub full : (i j m k : ℕ) → i < expiries → j < strikes → m < expiries → k < strikes → is_nan (get_or was (cell_at m k) nan) ≡ false
      → is_nan (get_or is (cell_at i j) nan) ≡ false

-- What every call leaves, refused or not: the length, each entry that is no cell in use, each cell that is no gap. And what it makes of a grid that
-- document 01 lets through.
pub record Filler (strikes expiries : ℕ) (was is : List Float) : Type 0 where
  pub sized : length is ≡ length was
  pub elsewhere : (p : ℕ) → ((i j : ℕ) → i < expiries → j < strikes → cell_at i j ≡ p → ⊥) → get_or is p nan ≡ get_or was p nan
  pub known : (p : ℕ) → is_nan (get_or was p nan) ≡ false → get_or is p nan ≡ get_or was p nan
  pub fills : strikes ≤ 64 → expiries ≤ 32 → 2048 ≤ length was → Fills strikes expiries was is
