-- Values written one after the other into a lent row, and a row lent as a part of a grid and given back. Assumes nothing.
use Prim.Native.Nat.{ℕ, suc, ◌+◌, ◌-◌, ◌*◌, ◌≤◌, ◌<◌}
use mathlib.Core.Path.{◌≡◌}
use mathlib.Core.List.{List, ◌∷◌, ◌++◌, append_assoc, append-nil}
use native.Mathlib.Omega.{arith}
use native.Mathlib.Numerals.{add-one}
use lib.ListN.{length, take, drop, set, length-drop}
use lib.Seq.{take-suc-set, take_all, length-take-le}
use mir.Val.{Fits}
use mir.Syntax.{w64}
use Rattle.grid.specs.Layout.{values}

module _ {X : Type 0} (f : ℕ → X) (n : ℕ) where
  -- j of the n values have been written
  abbrev pub Written : List X → ℕ → Type 0
  Written row j = take j row ++ values f (n - j) j ≡ values f n 0

  pub write_start : (row : List X) → Written row 0
  write_start row =
      let m : n - 0 ≡ n = omega arith in
      rw m

  pub write_step : (row : List X) (j : ℕ) (v : X) → j < n → length row ≡ n → v ≡ f j → Written row j → Written (set row j v) (j + 1)
  unfolding values
  write_step row j v h l e w =
      let q : j < length row = omega arith in
      let m : n - j ≡ suc (n - (j + 1)) = omega arith in
      let p : take j row ++ (f j ∷ values f (n - (j + 1)) (suc j)) ≡ values f n 0 = (rw m at w) in
      rw (add-one j, take-suc-set, append_assoc, e) (rw (add-one j) at p)

  pub write_end : (row : List X) (j : ℕ) → n ≤ j → length row ≡ n → Written row j → row ≡ values f n 0
  unfolding values
  write_end row j h l w =
      let q : length row ≤ j = omega arith in
      let m : n - j ≡ 0 = omega arith in
      (rw (m, take_all, append-nil) at w)

-- how long a part of a list is
pub part_length : {X : Type 0} (a n : ℕ) (l : List X) → a + n ≤ length l → length (take n (drop a l)) ≡ n
part_length a n l h = length-take-le n (drop a l) (simp length-drop (omega arith))

-- a row of `columns` cells at 64 × i lies within a grid of 2,048, and its places fit a machine's number
pub record RowWithin (i columns : ℕ) : Type 0 where
  pub start_fits : Fits w64 (64 * i)
  pub end_fits : Fits w64 (64 * i + columns)
  pub bytes_fit : Fits w64 (64 * i * 8)
  pub ordered : 64 * i ≤ 64 * i + columns
  pub within : 64 * i + columns ≤ 2048
  pub width : 64 * i + columns - 64 * i ≡ columns

pub row_within : (i rows columns : ℕ) → i < rows → rows ≤ 32 → columns ≤ 64 → RowWithin i columns
row_within i rows columns h r w =
    record {
      start_fits = record { fits = omega arith };
      end_fits = record { fits = omega arith };
      bytes_fit = record { fits = omega arith };
      ordered = omega arith;
      within = omega arith;
      width = omega arith;
    }
