-- The test `<` of floats of either sign, infinities included: it goes one way, and past what is not below. Assumes nothing.
use Prim.Native.Nat.{ℕ, zero, suc, ◌+◌, ◌*◌, ◌≤◌, ◌<◌}
use native.Mathlib.Nat.{le_of_lt, mul-pos, zero-lt-suc, zero-mul, mul_comm}
use native.Mathlib.Omega.{arith}
use mathlib.Core.Path.{◌≡◌, refl, sym, ◌∙◌}
use mathlib.Core.Bool.{Bool, true, false, true≢false}
use lib.Dec.{ltb}
use borrow.Author.Tests.{ltb-true, ltb-false, lt-ltb, le-ltb, eq-eqb}
use lib.Ieee.{Float, nan, inf, fin, binary64, up, down, below, sub, lt, eq, le, is_nan}
use lib.Ieee.Fits.{down_pos}
use lib.Ieee.Positive.{through}
use Rattle.floats.specs.Operators.{◌⊖◌, ◌≺◌, ◌≼◌}
use Rattle.floats.specs.Values.{magnitude, finite}
use Rattle.floats.proofs.Tests.{split, clash, or_true}
use Rattle.floats.proofs.Rounding.{apart, apart_turns, magnitude_sub}
use Rattle.floats.proofs.Signs.{Zero, is_zero, finite_is}
use Rattle.floats.proofs.Minimum.{round_number}

-- ---- three fractions: x / p < y / q ≤ z / r
through_lt : (x y z p q r : ℕ) → 0 < r → x * q < y * p → y * r ≤ z * q → x * r < z * p
through_lt x y z p q r R h k =
    split (ltb (x * r) (z * p))
    (λ t. ltb-true (x * r) (z * p) t)
    (λ t. let w = through y z x q r p R k (ltb-false (x * r) (z * p) t) in absurd (omega arith))

-- x / p > y / q ≥ z / r
over_lt : (x y z p q r : ℕ) → 0 < r → y * p < x * q → z * q ≤ y * r → z * p < x * r
over_lt x y z p q r R h k =
    split (ltb (z * p) (x * r))
    (λ t. ltb-true (z * p) (x * r) t)
    (λ t. let w = through x z y p r q R (ltb-false (z * p) (x * r) t) k in absurd (omega arith))

some_left : (a b : ℕ) → 0 < a * b → 0 < a
some_left zero b h = absurd (omega arith)
some_left (suc a) b h = zero-lt-suc a

none_left : (a b : ℕ) → 0 < b → a * b ≡ 0 → a ≡ 0
none_left zero b B h = refl
none_left (suc a) b B h = absurd (let w = mul-pos (zero-lt-suc a) B in omega arith)

-- ±x / p < ±y / q, and ±z / r not below ±y / q
below_through : (s t u : Bool) (x y z p q r : ℕ) → 0 < p → 0 < q → 0 < r → below s (x * q) t (y * p) ≡ true → below u (z * q) t (y * r) ≡ false
    → below s (x * r) u (z * p) ≡ true
below_through false false false x y z p q r P Q R h k =
    lt-ltb (x * r) (z * p) (through_lt x y z p q r R (ltb-true (x * q) (y * p) h) (ltb-false (z * q) (y * r) k))
below_through false false true x y z p q r P Q R h k =
    let n : y * r ≡ 0 = (let w = ltb-false 0 (z * q + y * r) k in omega arith) in
    let m = none_left y r R n in
    let l = ltb-true (x * q) (y * p) h in
    let o : y * p ≡ 0 = rw m (zero-mul p) in
    absurd (omega arith)
below_through false true u x y z p q r P Q R h k = absurd (true≢false (sym h))
below_through true false false x y z p q r P Q R h k =
    let l = ltb-true 0 (x * q + y * p) h in
    let w = ltb-false (z * q) (y * r) k in
    split (ltb 0 (x * q))
    (λ a.
    let b = mul-pos (some_left x q (ltb-true 0 (x * q) a)) R in
    lt-ltb 0 (x * r + z * p) (omega arith))
    (λ a.
    let b = ltb-false 0 (x * q) a in
    let c : 0 < y * p = omega arith in
    let d = mul-pos (some_left y p c) R in
    let e : 0 < z * q = omega arith in
    let f = mul-pos (some_left z q e) P in
    lt-ltb 0 (x * r + z * p) (omega arith))
below_through true false true x y z p q r P Q R h k =
    let l = ltb-true 0 (x * q + y * p) h in
    let w = ltb-false 0 (z * q + y * r) k in
    let a : z * q ≡ 0 = omega arith in
    let b : y * r ≡ 0 = omega arith in
    let m = none_left z q Q a in
    let n = none_left y r R b in
    let c : y * p ≡ 0 = rw n (zero-mul p) in
    let d : z * p ≡ 0 = rw m (zero-mul p) in
    let e : 0 < x * q = omega arith in
    let f = mul-pos (some_left x q e) R in
    lt-ltb (z * p) (x * r) (omega arith)
below_through true true false x y z p q r P Q R h k =
    let l = ltb-true (y * p) (x * q) h in
    let e : 0 < x * q = omega arith in
    let f = mul-pos (some_left x q e) R in
    lt-ltb 0 (x * r + z * p) (omega arith)
below_through true true true x y z p q r P Q R h k =
    lt-ltb (z * p) (x * r) (over_lt x y z p q r R (ltb-true (y * p) (x * q) h) (ltb-false (y * r) (z * q) k))

below_turns : (s t : Bool) (a b : ℕ) → below s a t b ≡ true → below t b s a ≡ false
below_turns false false a b h = le-ltb b a (le_of_lt (ltb-true a b h))
below_turns false true a b h = absurd (true≢false (sym h))
below_turns true false a b h = refl
below_turns true true a b h = le-ltb a b (le_of_lt (ltb-true b a h))

-- ---- of two values not each is below the other
pub lt_turns : (x y : Float) → x ≺ y ≡ true → y ≺ x ≡ false
unfolding lt
lt_turns nan y h = absurd (true≢false (sym h))
lt_turns (inf s) nan h = refl
lt_turns (inf true) (inf true) h = refl
lt_turns (inf true) (inf false) h = refl
lt_turns (inf false) (inf t) h = absurd (true≢false (sym h))
lt_turns (inf true) (fin t n d) h = refl
lt_turns (inf false) (fin t n d) h = absurd (true≢false (sym h))
lt_turns (fin s m e) nan h = refl
lt_turns (fin s m e) (inf true) h = absurd (true≢false (sym h))
lt_turns (fin s m e) (inf false) h = refl
lt_turns (fin s m e) (fin t n d) h = below_turns s t (m * up e * down d) (n * up d * down e) h

-- ---- x < y, and z, a number, is not below y
pub lt_through : (x y z : Float) → is_nan z ≡ false → x ≺ y ≡ true → z ≺ y ≡ false → x ≺ z ≡ true
unfolding lt is_nan
lt_through nan y z n h k = absurd (true≢false (sym h))
lt_through (inf false) nan z n h k = absurd (true≢false (sym h))
lt_through (inf false) (inf t) z n h k = absurd (true≢false (sym h))
lt_through (inf false) (fin t b d) z n h k = absurd (true≢false (sym h))
lt_through (inf true) y nan n h k = absurd (true≢false n)
lt_through (inf true) y (inf true) n h k = clash h k
lt_through (inf true) y (inf false) n h k = refl
lt_through (inf true) y (fin u c g) n h k = refl
lt_through (fin s a e) nan z n h k = absurd (true≢false (sym h))
lt_through (fin s a e) (inf t) nan n h k = absurd (true≢false n)
lt_through (fin s a e) (inf t) (inf true) n h k = clash h k
lt_through (fin s a e) (inf t) (inf false) n h k = refl
lt_through (fin s a e) (inf t) (fin u c g) n h k = clash h k
lt_through (fin s a e) (fin t b d) nan n h k = absurd (true≢false n)
lt_through (fin s a e) (fin t b d) (inf true) n h k = absurd (true≢false k)
lt_through (fin s a e) (fin t b d) (inf false) n h k = refl
lt_through (fin s a e) (fin t b d) (fin u c g) n h k =
    below_through s t u (a * up e) (b * up d) (c * up g) (down e) (down d) (down g) (down_pos e) (down_pos d) (down_pos g) h k

pub above_some : (y z : Float) → y ≺ z ≡ true → is_nan z ≡ false
unfolding lt is_nan
above_some nan z h = absurd (true≢false (sym h))
above_some (inf s) nan h = absurd (true≢false (sym h))
above_some (inf s) (inf t) h = refl
above_some (inf s) (fin t n d) h = refl
above_some (fin s m e) nan h = absurd (true≢false (sym h))
above_some (fin s m e) (inf t) h = refl
above_some (fin s m e) (fin t n d) h = refl

pub lt_trans : (x y z : Float) → x ≺ y ≡ true → y ≺ z ≡ true → x ≺ z ≡ true
lt_trans x y z h k = lt_through x y z (above_some y z k) h (lt_turns y z k)

-- ---- at most
pub lt_le : (x y : Float) → x ≺ y ≡ true → x ≼ y ≡ true
unfolding le
lt_le x y h = rw h

pub le_same : (x : Float) → finite x ≡ true → x ≼ x ≡ true
unfolding le eq
le_same nan f = absurd (true≢false (sym f))
le_same (inf s) f = absurd (true≢false (sym f))
le_same (fin false m e) f = let a = m * up e * down e in rw (eq-eqb a a refl, or_true (ltb a a))
le_same (fin true m e) f = let a = m * up e * down e in rw (eq-eqb a a refl, or_true (ltb a a))

-- ---- the differences of finite values from one and the same are all numbers or none is
pub differences : (x y v : Float) → finite x ≡ true → finite y ≡ true → is_nan (magnitude (x ⊖ v)) ≡ false → is_nan (magnitude (y ⊖ v)) ≡ false
unfolding sub magnitude is_nan
differences nan y v f g n = absurd (true≢false (sym f))
differences (inf s) y v f g n = absurd (true≢false (sym f))
differences (fin s a e) nan v f g n = absurd (true≢false (sym g))
differences (fin s a e) (inf t) v f g n = absurd (true≢false (sym g))
differences (fin s a e) (fin t b d) nan f g n = absurd (true≢false n)
differences (fin s a e) (fin t b d) (inf u) f g n = refl
differences (fin s a e) (fin t b d) (fin u c k) f g n =
    rw (magnitude_sub binary64 t b d u c k) (round_number false (apart t (b * up d * down k) u (c * up k * down d)) (down d * down k))

-- ---- how far two values are apart: as far one way as the other, and no two are nearer than one and the same
pub difference_turns : (x y : Float) → magnitude (x ⊖ y) ≡ magnitude (y ⊖ x)
unfolding sub magnitude
difference_turns nan nan = refl
difference_turns nan (inf t) = refl
difference_turns nan (fin t n d) = refl
difference_turns (inf s) nan = refl
difference_turns (inf true) (inf true) = refl
difference_turns (inf true) (inf false) = refl
difference_turns (inf false) (inf true) = refl
difference_turns (inf false) (inf false) = refl
difference_turns (inf s) (fin t n d) = refl
difference_turns (fin s m e) nan = refl
difference_turns (fin s m e) (inf t) = refl
difference_turns (fin s m e) (fin t n d) =
    let turned = apart_turns s (m * up e * down d) t (n * up d * down e) in
    rw (magnitude_sub binary64 s m e t n d, magnitude_sub binary64 t n d s m e, turned, mul_comm (down e) (down d))

zero_times : (a b : ℕ) → 0 * a * b ≡ 0
zero_times a b = rw (zero-mul a) (zero-mul b)

none_below_zero : (x z : Float) → Zero z → magnitude x ≺ magnitude z ≡ false
unfolding lt magnitude
none_below_zero x nan h = absurd h
none_below_zero x (inf t) h = absurd h
none_below_zero x (fin t (suc n) d) h = absurd h
none_below_zero nan (fin t zero d) h = refl
none_below_zero (inf s) (fin t zero d) h = refl
none_below_zero (fin s m e) (fin t zero d) h = le-ltb (m * up e * down d) (0 * up d * down e) (let z = zero_times (up d) (down e) in omega arith)

pub none_below_itself : (x y : Float) → finite y ≡ true → magnitude (x ⊖ y) ≺ magnitude (y ⊖ y) ≡ false
none_below_itself x y f = none_below_zero (x ⊖ y) (y ⊖ y) (is_zero (y ⊖ y) (finite_is y ∙ f))
