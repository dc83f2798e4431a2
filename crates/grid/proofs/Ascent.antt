-- An axis, as a test of each value and the next says it. Assumes nothing.
use Prim.Native.Nat.{ℕ, zero, suc, ◌+◌, ◌≤◌, ◌<◌}
use mathlib.Core.Path.{◌≡◌, refl}
use mathlib.Core.Bool.{Bool, true, false, ◌&&◌}
use mathlib.Core.List.{List, [], ◌∷◌}
use native.Mathlib.Numerals.{add-one}
use native.Mathlib.Omega.{arith}
use lib.ListN.{length, get_or}
use lib.Ieee.{Float, nan}
use Rattle.std.specs.List.{AllAdjacentBelow, IsAllAdjacentAnswer}
use Rattle.floats.specs.Operators.{◌≺◌}
use Rattle.floats.specs.Values.{finite}
use Rattle.floats.proofs.Tests.{and_false}
use Rattle.grid.specs.Readings.{ascends, is_axis}

abbrev pub rises : Float → Float → Bool
rises x y = finite y && x ≺ y

all_rise : (x : Float) (ys : List Float) → AllAdjacentBelow (λ a b. true ≡ rises a b) (x ∷ ys) (length (x ∷ ys)) → ascends x ys ≡ true
unfolding ascends
all_rise x [] h = refl
all_rise x (y ∷ ys) h =
    let here = h 0 nan (omega arith) in
    let rest = all_rise y ys (λ k d l. rw (add-one k) (rw (add-one (suc k)) at (h (suc k) d (omega arith)))) in
    rw (← here) rest

one_falls : (x : Float) (ys : List Float) (k : ℕ) → k + 1 < length (x ∷ ys)
    → ((d : Float) → false ≡ rises (get_or (x ∷ ys) k d) (get_or (x ∷ ys) (k + 1) d)) → ascends x ys ≡ false
unfolding ascends
one_falls x [] k l h = absurd (omega arith)
one_falls x (y ∷ ys) zero l h = let here = h nan in rw (← here)
one_falls x (y ∷ ys) (suc k) l h =
    let rest = one_falls y ys k (omega arith) (λ d. rw (add-one k) (rw (add-one (suc k)) at (h d))) in
    rw rest (and_false (rises x y))

-- ---- a first value that is finite, and each rises from the one before
pub axis_sorted : (axis : List Float) (r : Bool) → 0 < length axis → finite (get_or axis 0 nan) ≡ true
    → IsAllAdjacentAnswer (λ x y b. b ≡ rises x y) axis r → r ≡ is_axis axis
unfolding is_axis
axis_sorted [] r l f h = absurd (omega arith)
axis_sorted (x ∷ xs) true l f h = rw (f, all_rise x xs h)
axis_sorted (x ∷ xs) false l f h = rw (f, one_falls x xs h.0 h.1 h.2)

pub none_axis : (axis : List Float) → length axis ≤ 0 → false ≡ is_axis axis
unfolding is_axis
none_axis [] h = refl
none_axis (x ∷ xs) h = absurd (omega arith)

pub no_axis : (axis : List Float) → finite (get_or axis 0 nan) ≡ false → false ≡ is_axis axis
unfolding is_axis
no_axis [] f = refl
no_axis (x ∷ xs) f = rw f
