-- The square root of what lies from 2^-20 to 2^7 lies from 2^-11 to 2^5. Assumes nothing.
use mathlib.Core.Path.{◌≡◌, sym, ap, ◌∙◌, subst}
use Prim.Native.Nat.{ℕ, ◌+◌, ◌*◌, ◌/◌, ◌^◌, ◌≤◌, ◌<◌}
use native.Mathlib.Nat.{le_trans, le_of_eq, lt_of_lt_of_le, lt_of_le_of_lt, mul-le-mul_right, mul-lt-mul_of_pos_right, mul_comm}
use native.Mathlib.Nat.{div-mul-le_self, lt-div-mul-add, div-lt_iff_lt-mul, le-div_iff_mul-le, div-le_of_le-mul}
use native.Mathlib.Omega.{arith}
use mathlib.Core.Bool.{false}
use lib.Dec.{T, lit<, lit≤}
use lib.Pow.{pow-add, pow_pos, pow_mono}
use lib.Ieee.{Float, nan, inf, fin, up, down, size}
use lib.Ieee.Digits.{size-lt, size-le}
use lib.Ieee.Exact.{HasValue, odd_sign}
use lib.Ieee.Fits.{down_pos}
use lib.Ieee.Positive.{positive}
use Rattle.floats.specs.Wholes.{units_of}
use Rattle.floats.proofs.Short.{AtMost}
use Rattle.floats.proofs.Bounds.{Bounded, AtLeast}
use Rattle.root.specs.Root.{whole_root, half_root, root_of_units, sqrt}
use Rattle.root.proofs.Squares.{IsRoot, whole_root_is, root_lt}
use Rattle.root.proofs.Nearest.{at_positive}

-- ---- a float by its units
value_most : (x : Float) (u w : ℕ) → HasValue x false u (2 ^ 1074) → u ≤ w → AtMost w x
value_most nan u w h l = absurd h
value_most (inf s) u w h l = absurd h
value_most (fin s m e) u w h l = le_trans (le_of_eq h.1) (mul-le-mul_right (down e) l)

value_least : (x : Float) (u w : ℕ) → HasValue x false u (2 ^ 1074) → w ≤ u → AtLeast w x
value_least nan u w h l = absurd h
value_least (inf s) u w h l = absurd h
value_least (fin s m e) u w h l = le_trans (mul-le-mul_right (down e) l) (le_of_eq (sym h.1))

units_least : (w : ℕ) (x : Float) → T (positive x) → AtLeast w x → w ≤ units_of x
units_least w nan p h = absurd p
units_least w (inf s) p h = absurd p
units_least w (fin s m e) p h = (le-div_iff_mul-le (down_pos e)).1 h

units_most : (w : ℕ) (x : Float) → T (positive x) → AtMost w x → units_of x ≤ w
units_most w nan p h = absurd p
units_most w (inf s) p h = absurd p
units_most w (fin s m e) p h = div-le_of_le-mul (down e) {m = m * up e * 2 ^ 1074} {n = w} (le_trans h (le_of_eq (mul_comm w (down e))))

-- ---- the squares: q is the root of n c / p p, and r is half of q + 1
root_le : (x y : ℕ) → x * x ≤ y * y → x ≤ y
root_le x y h = let l = root_lt x (y + 1) (lt_of_le_of_lt h (grows y)) in omega arith
  where
    grows : (y : ℕ) → y * y < (y + 1) * (y + 1)
    grows y = omega arith

upper : (n c p N q y : ℕ) → N * (p * p) ≤ n * c → q * q ≤ N → n * c ≤ y * y → (q + 1) / 2 * p ≤ y
upper n c p N q y h k l =
    let s : q * p * (q * p) ≤ y * y = (let z = mul-le-mul_right (p * p) k in omega arith) in
    le_trans (mul-le-mul_right p (let z : (q + 1) / 2 ≤ q = omega arith in z)) (root_le (q * p) y s)

lower : (n c p N q y : ℕ) → n * c < N * (p * p) + p * p → N < (q + 1) * (q + 1) → 4 * y * (4 * y) ≤ n * c → p ≤ 2 * y → y ≤ (q + 1) / 2 * p
lower n c p N q y h k l g =
    let z = mul-le-mul_right {m = N + 1} {n = (q + 1) * (q + 1)} (p * p) (up_to N q k) in
    let s : 4 * y * (4 * y) ≤ (q + 1) * p * ((q + 1) * p) = omega arith in
    let t = root_le (4 * y) ((q + 1) * p) s in
    half ((q + 1) / 2) (q + 1) p y (let z : q + 1 ≤ 2 * ((q + 1) / 2) + 1 = omega arith in z) t g
  where
    up_to : (N q : ℕ) → N < (q + 1) * (q + 1) → N + 1 ≤ (q + 1) * (q + 1)
    up_to N q h = omega arith

    half : (r a p y : ℕ) → a ≤ 2 * r + 1 → 4 * y ≤ a * p → p ≤ 2 * y → y ≤ r * p
    half r a p y h k g = let z = mul-le-mul_right p h in omega arith

-- ---- the root
module _ (n : ℕ) (lo : 2 ^ 1054 ≤ n) (hi : n ≤ 2 ^ 1081) where
  abbrev k : ℕ
  k = (size n + 969) / 2

  abbrev N : ℕ
  N = n * 2 ^ 1076 / 2 ^ (2 * k)

  abbrev q : ℕ
  q = whole_root 54 N

  size_most : size n ≤ 1082
  size_most = size-le n 1082 (lt_of_le_of_lt hi (lit< tt))

  square : 2 ^ (2 * k) ≡ 2 ^ k * 2 ^ k
  square = ap (λ (x : ℕ). 2 ^ x) (let e : 2 * k ≡ k + k = omega arith in e) ∙ pow-add 2 k k

  N_most : N < 2 ^ 108
  N_most =
      (div-lt_iff_lt-mul {k = 2 ^ (2 * k)} {x = n * 2 ^ 1076} {y = 2 ^ 108} (pow_pos (2 * k))).1
      (lt_of_lt_of_le (mul-lt-mul_of_pos_right (size-lt n) (pow_pos 1076))
      (le_trans (le_of_eq (sym (pow-add 2 (size n) 1076)))
      (le_trans (pow_mono {i = size n + 1076} {j = 108 + 2 * k} (omega arith)) (le_of_eq (pow-add 2 108 (2 * k))))))

  is_root : IsRoot N q
  is_root = whole_root_is 54 N N_most

  root_most : (q + 1) / 2 * 2 ^ k ≤ 2 ^ 1079
  unfolding IsRoot
  root_most =
      upper n (2 ^ 1076) (2 ^ k) N q (2 ^ 1079) (le_trans (le_of_eq (ap (λ (x : ℕ). N * x) (sym square))) (div-mul-le_self (n * 2 ^ 1076) (2 ^ (2 * k))))
      is_root.0 (le_trans (mul-le-mul_right (2 ^ 1076) hi) (lit≤ tt))

  root_least : 2 ^ 1063 ≤ (q + 1) / 2 * 2 ^ k
  unfolding IsRoot
  root_least =
      lower n (2 ^ 1076) (2 ^ k) N q (2 ^ 1063) (subst (λ (x : ℕ). n * 2 ^ 1076 < N * x + x) square (lt-div-mul-add (pow_pos (2 * k)))) is_root.1
      (le_trans (lit≤ tt) (mul-le-mul_right (2 ^ 1076) lo)) (pow_mono {i = k} {j = 1064} (let s = size_most in omega arith))

  units_root : HasValue (root_of_units n) false ((q + 1) / 2 * 2 ^ k) (2 ^ 1074)
  unfolding root_of_units half_root
  units_root = odd_sign 53 false ((q + 1) / 2) k 1074

  units_bound : Bounded 1079 (root_of_units n)
  units_bound = value_most (root_of_units n) ((q + 1) / 2 * 2 ^ k) (2 ^ 1079) units_root root_most

  units_lowest : AtLeast (2 ^ 1063) (root_of_units n)
  units_lowest = value_least (root_of_units n) ((q + 1) / 2 * 2 ^ k) (2 ^ 1063) units_root root_least

module _ (t : Float) (p : T (positive t)) (least : AtLeast (2 ^ 1054) t) (most : Bounded 1081 t) where
  pub sqrt_bound : Bounded 1079 (sqrt t)
  sqrt_bound = subst (Bounded 1079) (at_positive t p) (units_bound (units_of t) (units_least (2 ^ 1054) t p least) (units_most (2 ^ 1081) t p most))

  pub sqrt_least : AtLeast (2 ^ 1063) (sqrt t)
  sqrt_least = subst (AtLeast (2 ^ 1063)) (at_positive t p) (units_lowest (units_of t) (units_least (2 ^ 1054) t p least) (units_most (2 ^ 1081) t p most))
