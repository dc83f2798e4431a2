-- Writing a column back, a step at a time. Assumes nothing.
use Prim.Native.Nat.{ℕ, ◌+◌, ◌*◌, ◌≤◌, ◌<◌}
use mathlib.Core.Path.{◌≡◌}
use mathlib.Core.List.{List}
use native.Mathlib.Numerals.{add-one}
use lib.ListN.{length, drop, get_or, set, drop_of_length-le}
use lib.Seq.{drop-cons}
use lib.Ieee.{Float, nan}
use Rattle.gaps.specs.Gaps.{column, put_column, swept, columns_swept}

pub put_step : (g xs : List Float) (j i : ℕ) → i < length xs
    → put_column j (i + 1) (drop (i + 1) xs) (set g (64 * i + j) (get_or xs i nan)) ≡ put_column j i (drop i xs) g
unfolding put_column
put_step g xs j i h = rw (drop-cons xs i nan, add-one)

pub put_end : (g xs : List Float) (j i : ℕ) → length xs ≤ i → put_column j i (drop i xs) g ≡ g
unfolding put_column
put_end g xs j i h = rw (drop_of_length-le xs h)

pub columns_step : (g₀ g h : List Float) (j n : ℕ) → g ≡ columns_swept j n g₀ → h ≡ put_column j 0 (swept (column j n g)) g → h ≡ columns_swept (j + 1) n g₀
unfolding columns_swept
columns_step g₀ g h j n e f = rw (add-one, ← e) f
