-- What the values of an axis are: finite, each below those after it, and inside it. Assumes nothing.
use Prim.Native.Nat.{ℕ, zero, suc, ◌-◌, ◌≤◌, ◌<◌}
use mathlib.Core.Path.{◌≡◌, sym}
use mathlib.Core.Bool.{true, false, ◌&&◌, true≢false}
use mathlib.Core.List.{List, [], ◌∷◌}
use native.Mathlib.Nat.{le_of_suc-le-suc}
use native.Mathlib.Omega.{arith}
use lib.Dec.{ltb}
use borrow.Author.Tests.{ltb-true, ltb-false}
use lib.ListN.{length, get_or}
use lib.Ieee.{Float, nan}
use Rattle.floats.specs.Operators.{◌≺◌, ◌≼◌}
use Rattle.floats.specs.Values.{finite}
use Rattle.floats.proofs.Tests.{split, and_left, and_right}
use Rattle.limits.proofs.Ranges.{nan_outside}
use Rattle.floats.proofs.Less.{lt_trans, lt_le, le_same}
use Rattle.grid.specs.Readings.{ascends, is_axis, inside}

-- a not-a-number is outside
nan_outside_axis : (xs : List Float) → inside xs nan ≡ false
unfolding inside
nan_outside_axis xs = nan_outside (get_or xs 0 nan) (get_or xs (length xs - 1) nan)

-- a value, then those behind it
split_axis : (x : Float) (xs : List Float) → is_axis (x ∷ xs) ≡ true → (finite x ≡ true) × (ascends x xs ≡ true)
unfolding is_axis
split_axis x xs a = (and_left (finite x) (ascends x xs) a, and_right (finite x) (ascends x xs) a)

split_ascent : (x y : Float) (ys : List Float) → ascends x (y ∷ ys) ≡ true → (x ≺ y ≡ true) × (is_axis (y ∷ ys) ≡ true)
unfolding ascends is_axis
split_ascent x y ys a =
    let h = and_left (finite y && x ≺ y) (ascends y ys) a in
    let r = and_right (finite y && x ≺ y) (ascends y ys) a in
    (and_right (finite y) (x ≺ y) h, rw (and_left (finite y) (x ≺ y) h) r)

pub axis_long : (xs : List Float) → is_axis xs ≡ true → 0 < length xs
unfolding is_axis
axis_long [] a = absurd (true≢false (sym a))
axis_long (x ∷ xs) a = omega arith

pub axis_finite : (xs : List Float) → is_axis xs ≡ true → (i : ℕ) → i < length xs → finite (get_or xs i nan) ≡ true
axis_finite [] a i h = absurd (omega arith)
axis_finite (x ∷ xs) a zero h = (split_axis x xs a).0
axis_finite (x ∷ []) a (suc i) h = absurd (omega arith)
axis_finite (x ∷ y ∷ ys) a (suc i) h =
    axis_finite (y ∷ ys) (split_ascent x y ys (split_axis x (y ∷ ys) a).1).1 i (le_of_suc-le-suc h)

-- each is below those after it
ascends_above : (x : Float) (ys : List Float) → ascends x ys ≡ true → (i : ℕ) → i < length ys → x ≺ get_or ys i nan ≡ true
ascends_above x [] a i h = absurd (omega arith)
ascends_above x (y ∷ ys) a zero h = (split_ascent x y ys a).0
ascends_above x (y ∷ ys) a (suc i) h =
    let s = split_ascent x y ys a in
    lt_trans x y (get_or ys i nan) s.0 (ascends_above y ys (split_axis y ys s.1).1 i (le_of_suc-le-suc h))

pub axis_rises : (xs : List Float) → is_axis xs ≡ true → (i j : ℕ) → i < j → j < length xs → get_or xs i nan ≺ get_or xs j nan ≡ true
axis_rises [] a i j h k = absurd (omega arith)
axis_rises (x ∷ xs) a i zero h k = absurd (omega arith)
axis_rises (x ∷ xs) a zero (suc j) h k = ascends_above x xs (split_axis x xs a).1 j (le_of_suc-le-suc k)
axis_rises (x ∷ []) a (suc i) (suc j) h k = absurd (omega arith)
axis_rises (x ∷ y ∷ ys) a (suc i) (suc j) h k =
    axis_rises (y ∷ ys) (split_ascent x y ys (split_axis x (y ∷ ys) a).1).1 i j (le_of_suc-le-suc h) (le_of_suc-le-suc k)

-- ---- inside
upto : (xs : List Float) → is_axis xs ≡ true → (i j : ℕ) → i ≤ j → j < length xs → get_or xs i nan ≼ get_or xs j nan ≡ true
upto xs a i j h k =
    split (ltb i j)
    (λ t. lt_le (get_or xs i nan) (get_or xs j nan) (axis_rises xs a i j (ltb-true i j t) k))
    (λ t.
    let e : j ≡ i = (let w = ltb-false i j t in omega arith) in
    rw e (le_same (get_or xs i nan) (axis_finite xs a i (omega arith))))

pub axis_inside : (xs : List Float) → is_axis xs ≡ true → (i : ℕ) → i < length xs → inside xs (get_or xs i nan) ≡ true
unfolding inside Rattle.limits.specs.Ranges.within
axis_inside xs a i h =
    rw (upto xs a 0 i (omega arith) h, upto xs a i (length xs - 1) (omega arith) (omega arith))
