-- Crude bounds through a chain of operations, by powers of two: x is finite and at most 2^i units of 2^-1074 in magnitude, so that 1 has i = 1074. A power
-- of two is short: rounding keeps each bound, and no rounding error is counted. Assumes nothing.
use mathlib.Core.Path.{◌≡◌, refl, sym, ap, ◌∙◌, subst}
use Prim.Native.Nat.{ℕ, zero, suc, ◌+◌, ◌-◌, ◌*◌, ◌^◌, ◌≤◌, ◌<◌, zero-le}
use native.Mathlib.Nat.{le_trans, le_refl, le_of_eq, sub-le, one-mul, zero-mul, add-le-add, mul-pos, mul-le-mul, mul-le-mul_right, mul-le-mul_left}
use native.Mathlib.Nat.{lt_of_lt_of_le, le_of_mul-le-mul_right, zero-lt-suc, lt_of_mul-lt-mul_right, lt_of_not-le}
use native.Mathlib.Decide.{dec_le}
use native.Mathlib.Omega.{arith}
use mathlib.Core.Bool.{Bool, true, false, not, ◌&&◌, cond, beq, true≢false}
use lib.IntN.{ℤ, pos, negsuc, nat_abs}
use lib.Dec.{T, ltb, lit<, lit≤, lt→ltb}
use lib.Pow.{pow-add, pow_pos, pow_mono, pow-lt, shl_lt}
use borrow.Author.Tests.{ltb-false}
use lib.Ieee.{Float, nan, inf, fin, binary64, up, down, unlike, neg, add, sub, mul, div, sum, round, of_int, fits, lt, le, eq, is_nan}
use lib.Ieee.Fits.{up_pos, down_pos}
use lib.Ieee.Order.{round_mono}
use lib.Ieee.Exact.{HasValue}
use lib.Ieee.Positive.{positive, above, le→cross, first_pos, through}
use Rattle.floats.specs.Operators.{decimal, ◌⊕◌, ◌⊖◌, ◌⊗◌, ◌⊘◌, ◌≺◌, ◌≼◌}
use Rattle.floats.specs.Values.{magnitude, negative, finite}
use Rattle.floats.proofs.Tests.{by, or_le}
use Rattle.floats.proofs.Rounding.{magnitude_round}
use Rattle.floats.proofs.Whole.{significand_lt, value_small, pow_le_back}
use Rattle.floats.proofs.Short.{Short, AtMost, most_round, short_value}
use Rattle.floats.proofs.Minimum.{negative_round}
use Rattle.floats.proofs.Quotients.{divided}
use Rattle.floats.proofs.Between.{sub_signed}

-- ---- the bounds
abbrev pub Bounded : ℕ → Float → Type 0
Bounded i x = AtMost (2 ^ i) x

-- a number, and of magnitude at least w units
abbrev pub AtLeast : ℕ → Float → Type 0
AtLeast w nan = ⊥
AtLeast w (inf s) = Unit
AtLeast w (fin s m e) = w * down e ≤ m * up e * 2 ^ 1074

-- finite, with the sign clear
abbrev pub Clear : Float → Type 0
Clear nan = ⊥
Clear (inf s) = ⊥
Clear (fin s m e) = s ≡ false

-- finite, and at most w units where the sign is clear
abbrev pub Upto : ℕ → Float → Type 0
Upto w nan = ⊥
Upto w (inf s) = ⊥
Upto w (fin true m e) = Unit
Upto w (fin false m e) = m * up e * 2 ^ 1074 ≤ w * down e

pub power_short : (i : ℕ) → i < 2098 → Short (2 ^ i)
power_short i h = record { digits = 1; zeros = i; is = sym (one-mul (2 ^ i)); few = lit< tt; small = pow-lt h }

pub few_short : (q j : ℕ) → q < 1024 → j ≤ 2000 → Short (q * 2 ^ j)
few_short q j h l = record {
  digits = q;
  zeros = j;
  is = refl;
  few = omega arith;
  small = lt_of_lt_of_le (shl_lt 10 j h) (pow_mono {i = 10 + j} {j = 2098} (omega arith));
}

pub bounded_more : (i j : ℕ) (x : Float) → i ≤ j → Bounded i x → Bounded j x
bounded_more i j nan h b = b
bounded_more i j (inf s) h b = b
bounded_more i j (fin s m e) h b = le_trans b (mul-le-mul_right (down e) (pow_mono h))

pub round_bound : (k : ℕ) (s : Bool) (n d : ℕ) → k < 2098 → 0 < d → n * 2 ^ 1074 ≤ 2 ^ k * d → Bounded k (round binary64 s n d)
round_bound k s n d h D l = most_round (2 ^ k) s n d (power_short k h) D l

pub clear_of : (w : ℕ) (x : Float) → AtMost w x → negative x ≡ false → Clear x
unfolding negative
clear_of w nan h k = h
clear_of w (inf s) h k = h
clear_of w (fin s m e) h k = k

-- two finite values, and two with the sign clear, by their digits
both_finite : (i j : ℕ) (P : Float → Float → Type 0)
    → ((s : Bool) (m : ℕ) (e : ℤ) (t : Bool) (n : ℕ) (d : ℤ) → AtMost i (fin s m e) → AtMost j (fin t n d) → P (fin s m e) (fin t n d))
    → (x y : Float) → AtMost i x → AtMost j y → P x y
both_finite i j P f nan y a b = absurd a
both_finite i j P f (inf s) y a b = absurd a
both_finite i j P f (fin s m e) nan a b = absurd b
both_finite i j P f (fin s m e) (inf t) a b = absurd b
both_finite i j P f (fin s m e) (fin t n d) a b = f s m e t n d a b

pub both_clear : (P : Float → Float → Type 0) → ((m : ℕ) (e : ℤ) (n : ℕ) (d : ℤ) → P (fin false m e) (fin false n d)) → (x y : Float) → Clear x → Clear y
    → P x y
both_clear P f nan y p q = absurd p
both_clear P f (inf s) y p q = absurd p
both_clear P f (fin true m e) y p q = absurd (true≢false p)
both_clear P f (fin false m e) nan p q = absurd q
both_clear P f (fin false m e) (inf t) p q = absurd q
both_clear P f (fin false m e) (fin true n d) p q = absurd (true≢false q)
both_clear P f (fin false m e) (fin false n d) p q = f m e n d

pub positive_clear : (x : Float) → T (positive x) → Clear x
positive_clear nan p = p
positive_clear (inf s) p = p
positive_clear (fin true m e) p = absurd p
positive_clear (fin false m e) p = refl

-- the smaller less the larger has its sign set
pub sub_negative : (x y : Float) → T (positive x) → T (positive y) → x ≺ y ≡ true → negative (x ⊖ y) ≡ true
unfolding lt
sub_negative x y p q =
    both_clear (λ x y. x ≺ y ≡ true → negative (x ⊖ y) ≡ true) (λ m e n d h. rw (sub_signed m e n d) (negative_round _ _ _ ∙ h)) x y
    (positive_clear x p) (positive_clear y q)

-- ---- product, sum, difference, quotient
powers : (i j k l : ℕ) → i + j ≤ k + l → 2 ^ i * 2 ^ j ≤ 2 ^ k * 2 ^ l
powers i j k l h = le_trans (le_of_eq (sym (pow-add 2 i j))) (le_trans (pow_mono {i = i + j} {j = k + l} h) (le_of_eq (pow-add 2 k l)))

times : (A B K I J P a b : ℕ) → 0 < K → A * K ≤ I * a → B * K ≤ J * b → I * J ≤ P * K → A * B * K ≤ P * (a * b)
times A B K I J P a b Z h l g =
    le_of_mul-le-mul_right {k = K}
    (let p = mul-le-mul h l in let q = mul-le-mul_right (a * b) g in let z : A * B * K * K ≤ P * (a * b) * K = omega arith in z) Z

pub most_mul : (w v u : ℕ) (x y : Float) → Short u → w * v ≤ u * 2 ^ 1074 → AtMost w x → AtMost v y → AtMost u (x ⊗ y)
unfolding mul
most_mul w v u x y S g =
    both_finite w v (λ x y. AtMost u (x ⊗ y))
    (λ s m e t n d a b. most_round u (unlike s t) (m * up e * (n * up d)) (down e * down d) S (mul-pos (down_pos e) (down_pos d))
    (times (m * up e) (n * up d) (2 ^ 1074) w v u (down e) (down d) (pow_pos 1074) a b g))
    x y

pub bounded_mul : (i j k : ℕ) (x y : Float) → k < 2098 → i + j ≤ k + 1074 → Bounded i x → Bounded j y → Bounded k (x ⊗ y)
bounded_mul i j k x y h g = most_mul (2 ^ i) (2 ^ j) (2 ^ k) x y (power_short k h) (powers i j k 1074 g)

-- a sum is one rounding, of a + b at most
sum_by : (P : Float → Type 0) (s : Bool) (a : ℕ) (t : Bool) (b c : ℕ) → ((u : Bool) (n : ℕ) → n ≤ a + b → P (round binary64 u n c))
    → P (sum binary64 s a t b c)
unfolding sum
sum_by P s a t b c f =
    by P (λ (x : Bool). cond x (round binary64 s (a + b) c) (cond (ltb a b) (round binary64 t (b - a) c) (round binary64 (s && ltb b a) (a - b) c)))
    (beq s t)
    (λ z. f s (a + b) (le_refl (a + b)))
    (λ z. by P (λ (x : Bool). cond x (round binary64 t (b - a) c) (round binary64 (s && ltb b a) (a - b) c)) (ltb a b)
    (λ y. f t (b - a) (omega arith)) (λ y. f (s && ltb b a) (a - b) (omega arith)))

plus : (A B K I J P a b : ℕ) → A * K ≤ I * a → B * K ≤ J * b → I + J ≤ P → (A * b + B * a) * K ≤ P * (a * b)
plus A B K I J P a b h l g = omega (arith, mul-le-mul_right b h, mul-le-mul_right a l, mul-le-mul_right (a * b) g)

two_powers : (i j k : ℕ) → i ≤ k → j ≤ k → 2 ^ i + 2 ^ j ≤ 2 ^ (k + 1)
two_powers i j k h l = le_trans (add-le-add (pow_mono h) (pow_mono l)) (le_of_eq (twice (2 ^ k) ∙ sym (pow-add 2 k 1)))
  where
    twice : (p : ℕ) → p + p ≡ p * 2
    twice p = omega arith

pub bounded_add : (i j k : ℕ) (x y : Float) → k < 2097 → i ≤ k → j ≤ k → Bounded i x → Bounded j y → Bounded (k + 1) (x ⊕ y)
unfolding add
bounded_add i j k x y h p q =
    both_finite (2 ^ i) (2 ^ j) (λ x y. Bounded (k + 1) (x ⊕ y))
    (λ s m e t n d a b. sum_by (Bounded (k + 1)) s (m * up e * down d) t (n * up d * down e) (down e * down d)
    (λ u c l. round_bound (k + 1) u c (down e * down d) (next k h) (mul-pos (down_pos e) (down_pos d))
    (le_trans (mul-le-mul_right (2 ^ 1074) l)
    (plus (m * up e) (n * up d) (2 ^ 1074) (2 ^ i) (2 ^ j) (2 ^ (k + 1)) (down e) (down d) a b (two_powers i j k p q)))))
    x y
  where
    next : (k : ℕ) → k < 2097 → k + 1 < 2098
    next k h = omega arith

pub bounded_neg : (i : ℕ) (x : Float) → Bounded i x → Bounded i (neg x)
unfolding neg
bounded_neg i nan b = b
bounded_neg i (inf s) b = b
bounded_neg i (fin s m e) b = b

pub bounded_sub : (i j k : ℕ) (x y : Float) → k < 2097 → i ≤ k → j ≤ k → Bounded i x → Bounded j y → Bounded (k + 1) (x ⊖ y)
unfolding sub
bounded_sub i j k x y h p q a b = bounded_add i j k x (neg y) h p q a (bounded_neg j y b)

over : (A K I a L b B P : ℕ) → 0 < K → A * K ≤ I * a → L * b ≤ B * K → I * K ≤ P * L → A * b * K ≤ P * (B * a)
over A K I a L b B P Z h l g =
    le_of_mul-le-mul_right {k = K}
    (let p = mul-le-mul_right (b * K) h in
    let q = mul-le-mul_right (a * b) g in
    let r = mul-le-mul_right (P * a) l in
    let z : A * b * K * K ≤ P * (B * a) * K = omega arith in z)
    Z

no_zero : (p d u k : ℕ) → 0 < p * d → p * d ≤ 0 * u * k → ⊥
no_zero p d u k h l = let z : 0 * u * k ≡ 0 = simp zero-mul in omega arith

pub most_div : (w l u : ℕ) (x y : Float) → Short u → 0 < l → w * 2 ^ 1074 ≤ u * l → AtMost w x → AtLeast l y → AtMost u (x ⊘ y)
most_div w l u nan y S Z g a b = absurd a
most_div w l u (inf s) y S Z g a b = absurd a
most_div w l u (fin s m e) nan S Z g a b = absurd b
most_div w l u (fin s m e) (inf t) S Z g a b = unfold div in nothing (2 ^ 1074) u
  where
    nothing : (k w : ℕ) → 0 * 1 * k ≤ w * 1
    nothing k w = simp zero-mul zero-le
most_div w l u (fin s m e) (fin t zero d) S Z g a b = absurd (no_zero l (down d) (up d) (2 ^ 1074) (mul-pos Z (down_pos d)) b)
most_div w l u (fin s m e) (fin t (suc n) d) S Z g a b =
    subst (AtMost u) (sym (divided s m e t n d))
    (most_round u (unlike s t) (m * up e * down d) (suc n * up d * down e) S (mul-pos (mul-pos (zero-lt-suc n) (up_pos d)) (down_pos e))
    (over (m * up e) (2 ^ 1074) w (down e) l (down d) (suc n * up d) u (pow_pos 1074) a b g))

pub bounded_div : (i l k : ℕ) (x y : Float) → k < 2098 → i + 1074 ≤ k + l → Bounded i x → AtLeast (2 ^ l) y → Bounded k (x ⊘ y)
bounded_div i l k x y h g = most_div (2 ^ i) (2 ^ l) (2 ^ k) x y (power_short k h) (pow_pos l) (powers i 1074 k l g)

-- ---- lower bounds
least_of_le : (w : ℕ) (x y : Float) → HasValue y false w (2 ^ 1074) → T (y ≼ magnitude x) → AtLeast w x
unfolding le lt eq magnitude
least_of_le w x nan v h = absurd v
least_of_le w x (inf t) v h = absurd v
least_of_le w x (fin true n d) v h = absurd (true≢false v.0)
least_of_le w nan (fin false n d) v h = h
least_of_le w (inf s) (fin false n d) v h = tt
least_of_le w (fin s m e) (fin false n d) v h =
    through w (n * up d) (m * up e) (2 ^ 1074) (down d) (down e) (down_pos d) (le_of_eq (sym v.1)) (or_le (n * up d * down e) (m * up e * down d) true h)

pub least_round : (w : ℕ) (s : Bool) (n d : ℕ) → Short w → 0 < d → w * d ≤ n * 2 ^ 1074 → AtLeast w (round binary64 s n d)
least_round w s n d h D l =
    least_of_le w (round binary64 s n d) (round binary64 false w (2 ^ 1074)) (short_value w h)
    (subst (λ (x : Float). T (round binary64 false w (2 ^ 1074) ≼ x)) (sym (magnitude_round binary64 s n d))
    (round_mono binary64 w (2 ^ 1074) n d (pow_pos 1074) D l))

pub least_product : (i j k v u : ℕ) (x y : Float) → Short k → k * 2 ^ 1074 ≤ i * j → AtMost v x → AtMost u y → AtLeast i x → AtLeast j y → AtLeast k (x ⊗ y)
unfolding mul
least_product i j k v u x y S g =
    both_finite v u (λ x y. AtLeast i x → AtLeast j y → AtLeast k (x ⊗ y))
    (λ s m e t n d p q a b. least_round k (unlike s t) (m * up e * (n * up d)) (down e * down d) S (mul-pos (down_pos e) (down_pos d))
    (at_least (m * up e) (n * up d) (2 ^ 1074) i j k (down e) (down d) (pow_pos 1074) a b g))
    x y
  where
    at_least : (A B K I J P a b : ℕ) → 0 < K → I * a ≤ A * K → J * b ≤ B * K → P * K ≤ I * J → P * (a * b) ≤ A * B * K
    at_least A B K I J P a b Z h l g =
        le_of_mul-le-mul_right {k = K}
        (let p = mul-le-mul h l in let q = mul-le-mul_right (a * b) g in let z : P * (a * b) * K ≤ A * B * K * K = omega arith in z) Z

pub least_mul : (i j k v u : ℕ) (x y : Float) → k < 2098 → k + 1074 ≤ i + j → AtMost v x → AtMost u y → AtLeast (2 ^ i) x → AtLeast (2 ^ j) y
    → AtLeast (2 ^ k) (x ⊗ y)
least_mul i j k v u x y h g = least_product (2 ^ i) (2 ^ j) (2 ^ k) v u x y (power_short k h) (powers k 1074 i j g)

pub least_div : (l j k v : ℕ) (x y : Float) → k < 2098 → k + j ≤ l + 1074 → AtMost v x → AtLeast (2 ^ l) x → Bounded j y → T (positive y)
    → AtLeast (2 ^ k) (x ⊘ y)
least_div l j k v nan y h g p a b q = absurd p
least_div l j k v (inf s) y h g p a b q = absurd p
least_div l j k v (fin s m e) nan h g p a b q = absurd q
least_div l j k v (fin s m e) (inf t) h g p a b q = absurd q
least_div l j k v (fin s m e) (fin true n d) h g p a b q = absurd q
least_div l j k v (fin s m e) (fin false zero d) h g p a b q = absurd q
least_div l j k v (fin s m e) (fin false (suc n) d) h g p a b q =
    subst (AtLeast (2 ^ k)) (sym (divided s m e false n d))
    (least_round (2 ^ k) (unlike s false) (m * up e * down d) (suc n * up d * down e) (power_short k h)
    (mul-pos (mul-pos (zero-lt-suc n) (up_pos d)) (down_pos e))
    (at_least (m * up e) (2 ^ 1074) (2 ^ l) (down e) (2 ^ j) (down d) (suc n * up d) (2 ^ k) (pow_pos 1074) a b (powers k j l 1074 g)))
  where
    at_least : (A K L a J b B P : ℕ) → 0 < K → L * a ≤ A * K → B * K ≤ J * b → P * J ≤ L * K → P * (B * a) ≤ A * b * K
    at_least A K L a J b B P Z h l g =
        le_of_mul-le-mul_right {k = K}
        (let p = mul-le-mul_right (b * K) h in
        let q = mul-le-mul_right (a * b) g in
        let r = mul-le-mul_right (P * a) l in
        let z : P * (B * a) * K ≤ A * b * K * K = omega arith in z)
        Z

-- a sum of two values with the sign clear is at least each
least_sum : (w m : ℕ) (e : ℤ) (n : ℕ) (d : ℤ) → Short w → w * (down e * down d) ≤ (m * up e * down d + n * up d * down e) * 2 ^ 1074
    → AtLeast w (fin false m e ⊕ fin false n d)
unfolding add sum
least_sum w m e n d S h = least_round w false (m * up e * down d + n * up d * down e) (down e * down d) S (mul-pos (down_pos e) (down_pos d)) h

pub least_add_left : (w : ℕ) (x y : Float) → Short w → Clear x → Clear y → AtLeast w x → AtLeast w (x ⊕ y)
least_add_left w x y S =
    both_clear (λ x y. AtLeast w x → AtLeast w (x ⊕ y))
    (λ m e n d h. least_sum w m e n d S (more (m * up e) (down e) (n * up d) (down d) (2 ^ 1074) w h)) x y
  where
    more : (A a B b K w : ℕ) → w * a ≤ A * K → w * (a * b) ≤ (A * b + B * a) * K
    more A a B b K w h = omega (arith, mul-le-mul_right b h)

pub least_add_right : (w : ℕ) (x y : Float) → Short w → Clear x → Clear y → AtLeast w y → AtLeast w (x ⊕ y)
least_add_right w x y S =
    both_clear (λ x y. AtLeast w y → AtLeast w (x ⊕ y))
    (λ m e n d h. least_sum w m e n d S (more (m * up e) (down e) (n * up d) (down d) (2 ^ 1074) w h)) x y
  where
    more : (A a B b K w : ℕ) → w * b ≤ B * K → w * (a * b) ≤ (A * b + B * a) * K
    more A a B b K w h = omega (arith, mul-le-mul_right a h)

-- ---- signs
pub negative_add : (x y : Float) → Clear x → Clear y → negative (x ⊕ y) ≡ false
unfolding add
negative_add x y =
    both_clear (λ x y. negative (x ⊕ y) ≡ false)
    (λ m e n d. unfold sum in negative_round false (m * up e * down d + n * up d * down e) (down e * down d)) x y

pub negative_mul : (x y : Float) → Clear x → Clear y → negative (x ⊗ y) ≡ false
unfolding mul
negative_mul x y = both_clear (λ x y. negative (x ⊗ y) ≡ false) (λ m e n d. negative_round false (m * up e * (n * up d)) (down e * down d)) x y

pub negative_square : (w : ℕ) (x : Float) → AtMost w x → negative (x ⊗ x) ≡ false
unfolding mul
negative_square w nan h = absurd h
negative_square w (inf s) h = absurd h
negative_square w (fin true m e) h = negative_round false (m * up e * (m * up e)) (down e * down e)
negative_square w (fin false m e) h = negative_round false (m * up e * (m * up e)) (down e * down e)

pub negative_div : (w : ℕ) (x y : Float) → Clear x → Clear y → 0 < w → AtLeast w y → negative (x ⊘ y) ≡ false
negative_div w x y = both_clear (λ x y. 0 < w → AtLeast w y → negative (x ⊘ y) ≡ false) (λ m e n d z h. at m e n d z h) x y
  where
    at : (m : ℕ) (e : ℤ) (n : ℕ) (d : ℤ) → 0 < w → AtLeast w (fin false n d) → negative (fin false m e ⊘ fin false n d) ≡ false
    at m e zero d z h = absurd (no_zero w (down d) (up d) (2 ^ 1074) (mul-pos z (down_pos d)) h)
    at m e (suc n) d z h = ap negative (divided false m e false n d) ∙ negative_round false (m * up e * down d) (suc n * up d * down e)

pub above_of : (w : ℕ) (x : Float) → 0 < w → AtLeast w x → negative x ≡ false → T (above x)
unfolding negative
above_of w nan z h k = h
above_of w (inf true) z h k = absurd (true≢false k)
above_of w (inf false) z h k = tt
above_of w (fin true m e) z h k = absurd (true≢false k)
above_of w (fin false m e) z h k = lt→ltb 0 m (first_pos m (up e) (first_pos (m * up e) (2 ^ 1074) (lt_of_lt_of_le (mul-pos z (down_pos e)) h)))

pub positive_of : (w v : ℕ) (x : Float) → 0 < w → AtLeast w x → AtMost v x → negative x ≡ false → T (positive x)
unfolding negative
positive_of w v nan z h l k = h
positive_of w v (inf s) z h l k = l
positive_of w v (fin true m e) z h l k = absurd (true≢false k)
positive_of w v (fin false m e) z h l k = above_of w (fin false m e) z h k

-- ---- a bound of the values above 0 alone
pub upto_of_most : (w : ℕ) (x : Float) → AtMost w x → Upto w x
upto_of_most w nan h = h
upto_of_most w (inf s) h = h
upto_of_most w (fin true m e) h = tt
upto_of_most w (fin false m e) h = h

upto_negative : (w v : ℕ) (x : Float) → AtMost v x → negative x ≡ true → Upto w x
unfolding negative
upto_negative w v nan h k = h
upto_negative w v (inf s) h k = h
upto_negative w v (fin true m e) h k = tt
upto_negative w v (fin false m e) h k = absurd (true≢false (sym k))

pub upto_neg : (w v : ℕ) (x : Float) → AtMost v x → negative x ≡ false → Upto w (neg x)
unfolding negative neg
upto_neg w v nan h k = h
upto_neg w v (inf s) h k = h
upto_neg w v (fin true m e) h k = absurd (true≢false k)
upto_neg w v (fin false m e) h k = tt

pub upto_number : (w : ℕ) (x : Float) → Upto w x → is_nan x ≡ false
unfolding is_nan
upto_number w nan h = absurd h
upto_number w (inf s) h = absurd h
upto_number w (fin s m e) h = refl

pub upto_mul : (w v u z : ℕ) (x y : Float) → Short u → w * v ≤ u * 2 ^ 1074 → Upto w x → Clear y → AtMost v y → AtMost z (x ⊗ y) → Upto u (x ⊗ y)
unfolding mul
upto_mul w v u z nan y S g h c b a = absurd h
upto_mul w v u z (inf s) y S g h c b a = absurd h
upto_mul w v u z (fin s m e) nan S g h c b a = absurd b
upto_mul w v u z (fin s m e) (inf t) S g h c b a = absurd b
upto_mul w v u z (fin s m e) (fin true n d) S g h c b a = absurd (true≢false c)
upto_mul w v u z (fin true m e) (fin false n d) S g h c b a =
    upto_negative u z (round binary64 true (m * up e * (n * up d)) (down e * down d)) a (negative_round true (m * up e * (n * up d)) (down e * down d))
upto_mul w v u z (fin false m e) (fin false n d) S g h c b a =
    upto_of_most u (round binary64 false (m * up e * (n * up d)) (down e * down d)) (most_mul w v u (fin false m e) (fin false n d) S g h b)

pub upto_add : (w v u z : ℕ) (x y : Float) → Short u → w + v ≤ u → Upto w x → Clear y → AtMost v y → AtMost z (x ⊕ y) → Upto u (x ⊕ y)
unfolding add
upto_add w v u z nan y S g h c b a = absurd h
upto_add w v u z (inf s) y S g h c b a = absurd h
upto_add w v u z (fin s m e) nan S g h c b a = absurd b
upto_add w v u z (fin s m e) (inf t) S g h c b a = absurd b
upto_add w v u z (fin s m e) (fin true n d) S g h c b a = absurd (true≢false c)
upto_add w v u z (fin false m e) (fin false n d) S g h c b a =
    unfold sum in upto_of_most u (round binary64 false (m * up e * down d + n * up d * down e) (down e * down d))
    (most_round u false (m * up e * down d + n * up d * down e) (down e * down d) S (mul-pos (down_pos e) (down_pos d))
    (plus (m * up e) (n * up d) (2 ^ 1074) w v u (down e) (down d) h b g))
upto_add w v u z (fin true m e) (fin false n d) S g h c b a = unfold sum in go (m * up e * down d) a
  where
    C : 0 < down e * down d
    C = mul-pos (down_pos e) (down_pos d)

    part : (B K v d e u x : ℕ) → B * K ≤ v * d → v ≤ u → (B * e - x) * K ≤ u * (e * d)
    part B K v d e u x h g =
        le_trans (mul-le-mul_right K (sub-le (B * e) x))
        (let p = mul-le-mul_right e h in let q = mul-le-mul_right (e * d) g in let z : B * e * K ≤ u * (e * d) = omega arith in z)

    none : (x y k w : ℕ) → x ≤ y → (x - y) * k ≤ w
    none x y k w h = let o : x - y ≡ 0 = omega arith in le_trans (le_of_eq (ap (λ (t : ℕ). t * k) o ∙ zero-mul k)) zero-le

    less : (w v u : ℕ) → w + v ≤ u → v ≤ u
    less w v u g = omega arith

    go : (x : ℕ) → AtMost z (cond (ltb x (n * up d * down e)) (round binary64 false (n * up d * down e - x) (down e * down d))
        (round binary64 (ltb (n * up d * down e) x) (x - n * up d * down e) (down e * down d)))
        → Upto u (cond (ltb x (n * up d * down e)) (round binary64 false (n * up d * down e - x) (down e * down d))
        (round binary64 (ltb (n * up d * down e) x) (x - n * up d * down e) (down e * down d)))
    go x a =
        let y = n * up d * down e in
        by (λ (r : Float). AtMost z r → Upto u r)
        (λ (t : Bool). cond t (round binary64 false (y - x) (down e * down d)) (round binary64 (ltb y x) (x - y) (down e * down d))) (ltb x y)
        (λ t k. upto_of_most u (round binary64 false (y - x) (down e * down d))
        (most_round u false (y - x) (down e * down d) S C (part (n * up d) (2 ^ 1074) v (down d) (down e) u x b (less w v u g))))
        (λ t. by (λ (r : Float). AtMost z r → Upto u r) (λ (q : Bool). round binary64 q (x - y) (down e * down d)) (ltb y x)
        (λ q k. upto_negative u z (round binary64 true (x - y) (down e * down d)) k (negative_round true (x - y) (down e * down d)))
        (λ q k. upto_of_most u (round binary64 false (x - y) (down e * down d))
        (most_round u false (x - y) (down e * down d) S C (none x y (2 ^ 1074) (u * (down e * down d)) (ltb-false y x q)))))
        a

-- ---- from the order of two values above 0
pub most_le : (w : ℕ) (x y : Float) → T (positive x) → T (positive y) → T (x ≼ y) → AtMost w y → AtMost w x
most_le w x y p q =
    both_clear (λ x y. T (positive x) → T (positive y) → T (x ≼ y) → AtMost w y → AtMost w x)
    (λ m e n d p q h b. through (m * up e) (n * up d) w (down e) (down d) (2 ^ 1074) (down_pos d) (le→cross (fin false m e) (fin false n d) p q h) b)
    x y (positive_clear x p) (positive_clear y q) p q

pub least_le : (w : ℕ) (x y : Float) → T (positive x) → T (positive y) → T (y ≼ x) → AtLeast w y → AtLeast w x
least_le w x y p q =
    both_clear (λ x y. T (positive x) → T (positive y) → T (y ≼ x) → AtLeast w y → AtLeast w x)
    (λ m e n d p q h b. through w (n * up d) (m * up e) (2 ^ 1074) (down d) (down e) (down_pos d) b (le→cross (fin false n d) (fin false m e) q p h))
    x y (positive_clear x p) (positive_clear y q) p q

-- ---- a whole number
few_units : (n k : ℕ) → n ≤ 2048 → n * k ≤ 2048 * k * 1
few_units n k h = omega (arith, mul-le-mul_right k h)

pub int_bound : (z : ℤ) → nat_abs z ≤ 2048 → Bounded 1085 (of_int binary64 z)
unfolding of_int
int_bound (pos n) h = round_bound 1085 false n 1 (lit< tt) (lit< tt) (few_units n (2 ^ 1074) h)
int_bound (negsuc n) h = round_bound 1085 true (suc n) 1 (lit< tt) (lit< tt) (few_units (suc n) (2 ^ 1074) h)

pub whole_clear : (n : ℕ) → n ≤ 2048 → Clear (decimal n 1)
unfolding of_int
whole_clear n h = clear_of (2 ^ 1085) (decimal n 1) (int_bound (pos n) h) (negative_round false n 1)

-- ---- a difference from any f64: at most the largest, 2^1024 - 2^971, which a bounded value does not carry beyond it
abbrev largest : ℕ
largest = 2 ^ 1024 - 2 ^ 971

pub exponent_most : (s : Bool) (m i : ℕ) → T (fits binary64 (fin s (suc m) (pos i))) → i ≤ 1024
exponent_most s m i f = pow_le_back i 1024 (least (2 ^ i) (suc m) (2 ^ 1024) (zero-lt-suc m) (value_small s m (pos i) f))
  where
    least : (a s b : ℕ) → 0 < s → s * a < b * 1 → a ≤ b
    least a s b S h = let z = mul-le-mul_right {m = 1} {n = s} a S in omega arith

float_most : (s : Bool) (m : ℕ) (e : ℤ) → T (fits binary64 (fin s m e)) → m * up e ≤ largest * down e
float_most s zero e f = le_trans (le_of_eq (zero-mul (up e))) zero-le
float_most s (suc m) (negsuc i) f = wide (suc m) largest (2 ^ suc i) (le_trans (few m (significand_lt s m (negsuc i) f)) (lit≤ tt)) (pow_pos (suc i))
  where
    few : (m : ℕ) → suc m < 2 ^ 53 → suc m ≤ 9007199254740992
    few m h = omega arith

    wide : (a b d : ℕ) → a ≤ b → 0 < d → a * 1 ≤ b * d
    wide a b d h D = let z = mul-le-mul_left {m = 1} {n = d} b D in omega arith
float_most s (suc m) (pos i) f = go (dec_le i 971)
  where
    v : suc m * 2 ^ i < 2 ^ 1024 * 1
    v = value_small s m (pos i) f

    bare : (a c : ℕ) → a < c * 1 → a < c
    bare a c h = omega arith

    one_more : (x p c l : ℕ) → l ≤ p → (x + 1) * p ≤ c → x * p ≤ (c - l) * 1
    one_more x p c l h g = omega arith

    go : Dec (i ≤ 971) → suc m * 2 ^ i ≤ largest * 1
    go (yes y) = le_trans (mul-le-mul (few m (significand_lt s m (pos i) f)) (pow_mono y)) (lit≤ tt)
      where
        few : (m : ℕ) → suc m < 2 ^ 53 → suc m ≤ 9007199254740991
        few m h = omega arith
    go (no n) =
        let e : 1024 - i + i ≡ 1024 = (let k = exponent_most s m i f in omega arith) in
        let w : suc m < 2 ^ (1024 - i) =
        lt_of_mul-lt-mul_right (2 ^ i) {m = suc m} {n = 2 ^ (1024 - i)}
        (lt_of_lt_of_le (bare (suc m * 2 ^ i) (2 ^ 1024) v) (le_of_eq (ap (λ (z : ℕ). 2 ^ z) (sym e) ∙ pow-add 2 (1024 - i) i))) in
        one_more (suc m) (2 ^ i) (2 ^ 1024) (2 ^ 971) (pow_mono {i = 971} {j = i} (let l = lt_of_not-le n in omega arith))
        (le_trans (mul-le-mul_right (2 ^ i) (let z : suc m + 1 ≤ 2 ^ (1024 - i) = omega arith in z))
        (le_of_eq (sym (pow-add 2 (1024 - i) i) ∙ ap (λ (z : ℕ). 2 ^ z) e)))

-- what rounds to at most that is finite
furthest_positive : T (positive (round binary64 false (2 ^ 960 + largest) 1))
unfolding round
furthest_positive = tt

finite_le : (x y : Float) → T (magnitude x ≼ y) → T (positive y) → finite x ≡ true
unfolding le lt eq magnitude
finite_le nan y h p = absurd h
finite_le (inf s) nan h p = absurd p
finite_le (inf s) (inf t) h p = absurd p
finite_le (inf s) (fin t n d) h p = absurd h
finite_le (fin s m e) y h p = refl

near_finite : (s : Bool) (n d : ℕ) → 0 < d → n * 1 ≤ (2 ^ 960 + largest) * d → finite (round binary64 s n d) ≡ true
near_finite s n d D h =
    finite_le (round binary64 s n d) (round binary64 false (2 ^ 960 + largest) 1)
    (subst (λ (x : Float). T (x ≼ round binary64 false (2 ^ 960 + largest) 1)) (sym (magnitude_round binary64 s n d))
    (round_mono binary64 n d (2 ^ 960 + largest) 1 D (lit< tt) h))
    furthest_positive

pub difference_finite : (x y : Float) → Bounded 2034 x → finite y ≡ true → T (fits binary64 y) → finite (x ⊖ y) ≡ true
unfolding sub
difference_finite nan y b g f = absurd b
difference_finite (inf s) y b g f = absurd b
difference_finite (fin s m e) nan b g f = absurd (true≢false (sym g))
difference_finite (fin s m e) (inf t) b g f = absurd (true≢false (sym g))
difference_finite (fin s m e) (fin t n d) b g f =
    sum_by (λ (z : Float). finite z ≡ true) s (m * up e * down d) (not t) (n * up d * down e) (down e * down d)
    (λ u c l. near_finite u c (down e * down d) (mul-pos (down_pos e) (down_pos d))
    (le_trans (mul-le-mul_right 1 l) (near (m * up e) (n * up d) (2 ^ 1074) (2 ^ 960) largest (down e) (down d) (pow_pos 1074) b (float_most t n d f))))
  where
    near : (A B K I J a b : ℕ) → 0 < K → A * K ≤ I * K * a → B ≤ J * b → (A * b + B * a) * 1 ≤ (I + J) * (a * b)
    near A B K I J a b Z h l =
        let r : A ≤ I * a = le_of_mul-le-mul_right {k = K} (let z : A * K ≤ I * a * K = omega arith in z) Z in
        omega (arith, mul-le-mul_right b r, mul-le-mul_right a l)
