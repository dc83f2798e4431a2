-- What a cell of row i holds in a grid of so many columns, and what it counts, when these cells have been filed. Assumes nothing.
use Prim.Native.Nat.{ℕ}
use mathlib.Core.List.{List}
use lib.ListN.{get_or}
use lib.Ieee.{Float, nan}
use Rattle.grid.specs.Layout.{cell_at}
use Rattle.chart.specs.Steps.{held}
use Rattle.surface.specs.Filed.{sums, numbers}
use Rattle.surface.specs.declared.cells.Cell.{Cell}

abbrev pub cell_of : List Cell → ℕ → ℕ → ℕ → Float
cell_of cs columns i = held (λ k. get_or (sums cs) (cell_at i k) nan) (λ k. get_or (numbers cs) (cell_at i k) 0) columns

abbrev pub count_of : List Cell → ℕ → ℕ → ℕ
count_of cs i k = get_or (numbers cs) (cell_at i k) 0
