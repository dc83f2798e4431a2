-- The sweeps of a row, a step at a time. Assumes nothing.
use Prim.Native.Nat.{ℕ, suc, ◌+◌, ◌*◌, ◌≤◌, ◌<◌}
use mathlib.Core.Path.{◌≡◌, ◌∙◌}
use mathlib.Core.List.{List, ◌∷◌, ◌++◌, append_assoc, append-nil}
use native.Mathlib.Omega.{arith}
use native.Mathlib.Numerals.{add-one}
use lib.ListN.{length, take, drop, get_or, set, drop_of_length-le}
use lib.Seq.{drop-cons, length-take-le, take-suc, take-suc-set, drop-set-lt, take_all, take-length, drop-length, set_at, get_or_at}
use lib.Ieee.{Float, nan}
use borrow.Rule.Slice.PartMut.{put_mid}
use Rattle.grid.specs.Layout.{partly}
use Rattle.gaps.specs.Gaps.{filled, forward, backward, swept, rows_swept}

pub forward_step : (row : List Float) (j : ℕ) (last w : Float) → j < length row → w ≡ filled last (get_or row j nan)
    → take (j + 1) (set row j w) ++ forward w (drop (j + 1) (set row j w)) ≡ take j row ++ forward last (drop j row)
unfolding forward
forward_step row j last w h e =
    let s : j < suc j = omega arith in
    rw (add-one, take-suc-set, drop-set-lt (suc j) row j w s, append_assoc, drop-cons row j nan, ← e)

pub forward_end : (row : List Float) (j : ℕ) (last : Float) → length row ≤ j → take j row ++ forward last (drop j row) ≡ row
unfolding forward
forward_end row j last h = rw (take_all, drop_of_length-le row h, append-nil)

-- the row when the backward pass has come down to j
pub record Backed (row₀ row : List Float) (last : Float) (j : ℕ) : Type 0 where
  pub most : j ≤ length row₀
  pub done : row ≡ take j row₀ ++ backward (drop j row₀)
  pub next : last ≡ get_or (backward (drop j row₀)) 0 nan

pub backward_start : (row : List Float) (last : Float) → last ≡ nan → Backed row row last (length row)
unfolding backward
backward_start row last e = record { most = omega arith; done = rw (take-length, drop-length, append-nil); next = rw drop-length e }

pub backward_step : (row₀ row : List Float) (last w : Float) (j m : ℕ) → suc m ≡ j → Backed row₀ row last j → w ≡ filled last (get_or row m nan)
    → Backed row₀ (set row m w) w m
unfolding backward
backward_step row₀ row last w j m e b f =
    let q : m < length row₀ = omega arith in
    let p : length (take m row₀) ≡ m = length-take-le m row₀ (omega arith) in
    let v = get_or row₀ m nan in
    let B = backward (drop (suc m) row₀) in
    let d : row ≡ take m row₀ ++ v ∷ B = (rw (← e, take-suc row₀ m nan, append_assoc) at b.done) in
    let l : last ≡ get_or B 0 nan = (rw (← e) at b.next) in
    let g : get_or row m nan ≡ v = rw d (get_or_at (take m row₀) v B nan m p) in
    let w' : w ≡ filled (get_or B 0 nan) v = f ∙ rw (g, ← l) in
    record {
      most = omega arith;
      done = rw (d, set_at (take m row₀) v B w m p, drop-cons row₀ m nan, ← w');
      next = rw (drop-cons row₀ m nan) w';
    }

pub backward_end : (row₀ row : List Float) (last : Float) (j : ℕ) → j ≡ 0 → Backed row₀ row last j → row ≡ backward row₀
backward_end row₀ row last j e b = (rw e at b.done)

-- one more row, lent as a part of the grid and given back
pub rows_step : (g₀ g ys : List Float) (i strikes k : ℕ) → k ≡ strikes → g ≡ rows_swept i strikes g₀ → ys ≡ swept (take k (drop (64 * i) g))
    → put_mid (64 * i) k g ys ≡ rows_swept (i + 1) strikes g₀
unfolding rows_swept partly
rows_step g₀ g ys i strikes k e h f =
    let z : 64 * i + 0 ≡ 64 * i = omega arith in
    rw (add-one, z, f, e, h)
