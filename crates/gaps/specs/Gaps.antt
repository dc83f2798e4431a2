-- Document 01: "The gap filler, callable on any grid of up to 32 × 64 cells where not-a-number is a gap, checks 2 and 15, then does rows, then
-- columns by the same sweeps, and writes nothing else."
use Rattle.std.specs.Prelude.{ℕ, zero, suc, ◌≤◌, ◌<◌, ◌≡◌, ◌||◌, List, [], ◌∷◌, ltb, length, get_or, set, Float, Result, if◌then◌else◌}
use Rattle.std.specs.Float.{nan}
use Rattle.std.specs.Float.Ieee.{is_nan}
use Rattle.limits.specs.Checks.{first, none}
use Rattle.limits.specs.Outcome.{Outcome, unless_refused}
unfoldable pub use Rattle.limits.specs.Outcome.{answered}
use Rattle.grid.specs.Layout.{cell_at, values, partly}
use Rattle.limits.specs.Refusals.{outcome_with}
use Rattle.limits.specs.declared.Refusal.{Refusal}

-- A value, or the last one passed where it is a gap.
unfoldable pub filled : Float → Float → Float
filled last v = if is_nan v then last else v

-- The forward pass: each gap takes the last value passed, and `last` before the first.
unfoldable pub forward : Float → List Float → List Float
forward last [] = []
forward last (v ∷ vs) = filled last v ∷ forward (filled last v) vs

-- The backward pass: each gap takes what the value after it has become.
unfoldable pub backward : List Float → List Float
backward [] = []
backward (v ∷ vs) = filled (get_or (backward vs) 0 nan) v ∷ backward vs

-- The sweeps of a row, and of a column: forward, then backward.
abbrev pub swept : List Float → List Float
swept vs = backward (forward nan vs)

-- The first rows swept, each of `strikes` cells.
unfoldable pub rows_swept : ℕ → ℕ → List Float → List Float
rows_swept zero strikes grid = grid
rows_swept (suc i) strikes grid = partly (λ row. swept row) (cell_at i 0) strikes (rows_swept i strikes grid)

-- Column j of the first `expiries` rows, and values written down column j from row i on.
abbrev pub column : ℕ → ℕ → List Float → List Float
column j expiries grid = values (λ i. get_or grid (cell_at i j) nan) expiries 0

unfoldable pub put_column : ℕ → ℕ → List Float → List Float → List Float
put_column j i [] grid = grid
put_column j i (v ∷ vs) grid = put_column j (suc i) vs (set grid (cell_at i j) v)

-- The first columns swept, each of `expiries` cells.
unfoldable pub columns_swept : ℕ → ℕ → List Float → List Float
columns_swept zero expiries grid = grid
columns_swept (suc j) expiries grid =
    let before = columns_swept j expiries grid in
    put_column j 0 (swept (column j expiries before)) before

-- Rows, then columns.
abbrev pub gaps_filled : ℕ → ℕ → List Float → List Float
gaps_filled strikes expiries grid = columns_swept strikes expiries (rows_swept expiries strikes grid)

-- 2: more than 64 strikes or 32 expiries. 15: the grid is short.
unfoldable pub fill_refusal : ℕ → ℕ → List Float → ℕ
fill_refusal strikes expiries grid =
    first (ltb 64 strikes || ltb 32 expiries) 2
    (first (ltb (length grid) 2048) 15
    none)

-- 01's numbers a second time, each where its check is the first that holds.
pub record Numbered (strikes expiries : ℕ) (grid : List Float) : Type 0 where
  pub many_strikes : 64 < strikes → fill_refusal strikes expiries grid ≡ 2
  pub many_expiries : 32 < expiries → fill_refusal strikes expiries grid ≡ 2
  pub short_grid : strikes ≤ 64 → expiries ≤ 32 → length grid < 2048 → fill_refusal strikes expiries grid ≡ 15

-- The answer in document 01's terms: it has no values.
abbrev pub fill_outcome : Result (Unit {0}) Refusal → Outcome (Unit {0})
fill_outcome answer = outcome_with tt answer

-- What a call of `fill_gaps` does, `was` being the grid at entry and `is` at exit.
pub record FillsGaps (strikes expiries : ℕ) (was : List Float) (answer : Outcome (Unit {0})) (is : List Float) : Type 0 where
  pub answers : answer ≡ answered (fill_refusal strikes expiries was) tt tt
  pub grid : is ≡ unless_refused (fill_refusal strikes expiries was) (gaps_filled strikes expiries was) was
