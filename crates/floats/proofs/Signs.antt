-- The tests against 0.0 and infinity, read as facts about a float's shape. Assumes nothing.
use mathlib.Core.Path.{◌≡◌, refl, sym, ap, ◌∙◌}
use Prim.Native.Nat.{ℕ, zero, suc, ◌+◌, ◌-◌, ◌*◌, ◌^◌, ◌<◌}
use native.Mathlib.Nat.{add-zero, mul-one, zero-mul, mul-pos, le_refl, zero-lt-suc, lt_irrefl}
use native.Mathlib.Omega.{arith}
use mathlib.Core.Bool.{Bool, true, false, ◌&&◌, ◌||◌, cond, beq, true≢false, or-true}
use lib.IntN.{ℤ, pos}
use lib.Dec.{T, ltb, eqb, lit<, ltb→lt, lt→ltb}
use borrow.Author.Tests.{ltb-true, ltb-false, eqb-true, eq-eqb, le-ltb, lt-ltb}
use Rattle.std.specs.Float.{float_with_sign, float_is_finite, is_sign_negative}
use lib.Ieee.{Float, nan, inf, fin, binary64, up, down, neg, lt, eq, ne, sub, round, low, prec, emax, odd, units, div, is_nan}
use lib.Ieee.Fits.{up_pos, down_pos, round_is}
use lib.Ieee.Compare.{nan_differs}
use lib.Ieee.Exact.{HasValue}
use lib.Ieee.Positive.{first_pos, positive, above}
use Rattle.floats.specs.Operators.{decimal, ◌≺◌, ◌⊖◌, ◌⊘◌}
use Rattle.floats.specs.Values.{magnitude, negative, copysign, finite}
use Rattle.floats.proofs.Tests.{and_left}
use Rattle.floats.proofs.Rounding.{zero_rounds}

-- 0.0 and 1.0
abbrev pub O : Float
O = decimal 0 1

abbrev pub I : Float
I = decimal 1 1

-- ---- the library's words for the shape of a float
pub float_with_sign-clear : (x : Float) → float_with_sign false x ≡ magnitude x
unfolding float_with_sign magnitude
float_with_sign-clear nan = refl
float_with_sign-clear (inf s) = refl
float_with_sign-clear (fin s m e) = refl

signed : (s : Bool) (x : Float) → float_with_sign s x ≡ cond s (neg (magnitude x)) (magnitude x)
unfolding float_with_sign magnitude neg
signed true nan = refl
signed true (inf t) = refl
signed true (fin t m e) = refl
signed false x = float_with_sign-clear x

pub float_with_sign-of : (x y : Float) → float_with_sign (is_sign_negative y) x ≡ copysign x y
unfolding float_with_sign is_sign_negative copysign negative magnitude neg
float_with_sign-of x nan = float_with_sign-clear x
float_with_sign-of x (inf s) = signed s x
float_with_sign-of x (fin s m e) = signed s x

pub copysign-nan : (x y : Float) → is_nan y ≡ true → copysign x y ≡ magnitude x
unfolding copysign negative is_nan
copysign-nan x nan h = refl
copysign-nan x (inf s) h = absurd (true≢false (sym h))
copysign-nan x (fin s m e) h = absurd (true≢false (sym h))

pub float_is_finite-is : (x : Float) → float_is_finite x ≡ finite x
unfolding float_is_finite
float_is_finite-is nan = refl
float_is_finite-is (inf s) = refl
float_is_finite-is (fin s m e) = refl

pub below_zero : (a b : ℕ) → ltb a (0 * b) ≡ true → ⊥
below_zero a b h = let k = ltb-true a (0 * b) h in let z = zero-mul b in omega arith

-- ---- finite: x - x is 0.0
zero_of_value : (x : Float) (s : Bool) (c : ℕ) → 0 < c → HasValue x s 0 c → eq x O ≡ true
unfolding eq round
zero_of_value nan s c C h = absurd h
zero_of_value (inf t) s c C h = absurd h
zero_of_value (fin t m e) s c C h = go (m * up e) (is_zero (m * up e) c C (h.1 ∙ zero-mul (down e)))
  where
    is_zero : (a b : ℕ) → 0 < b → a * b ≡ 0 → a ≡ 0
    is_zero zero b B p = refl
    is_zero (suc a) b B p = let q : 0 < suc a * b = mul-pos (zero-lt-suc a) B in omega arith

    go : (a : ℕ) → a ≡ 0 → (eqb (a * 1) (0 * down e) && (beq t false || eqb (a * 1) 0)) ≡ true
    go a p = simp (eq-eqb (a * 1) (0 * down e) (mul-one a ∙ p ∙ sym (zero-mul (down e))), eq-eqb (a * 1) 0 (mul-one a ∙ p)) (or-true (beq t false))

round_zero : (s : Bool) (n c : ℕ) → 0 < c → n ≡ 0 → eq (round binary64 s n c) O ≡ true
round_zero s n c C z =
    zero_of_value (round binary64 s n c) s c C (zero_rounds s n c C z)

no_difference : (a c : ℕ) (s t : Bool) → 0 < c → eq (cond (ltb a a) (round binary64 s (a - a) c) (round binary64 t (a - a) c)) O ≡ true
no_difference a c s t C = simp (le-ltb a a (le_refl a)) (round_zero t (a - a) c C (omega arith))

pub finite_is : (x : Float) → eq (x ⊖ x) O ≡ finite x
unfolding sub
finite_is nan = unfold eq in refl
finite_is (inf true) = unfold eq in refl
finite_is (inf false) = unfold eq in refl
finite_is (fin true m e) =
    no_difference (m * up e * down e) (down e * down e) false (ltb (m * up e * down e) (m * up e * down e)) (mul-pos (down_pos e) (down_pos e))
finite_is (fin false m e) = no_difference (m * up e * down e) (down e * down e) true false (mul-pos (down_pos e) (down_pos e))

-- ---- the sign of a rounding
not_below_fin : (m : ℕ) (e : ℤ) → fin false m e ≺ O ≡ false
unfolding lt round
not_below_fin m e = le-ltb (m * up e * 1) (0 * down e) (let z = zero-mul (down e) in omega arith)

not_below_odd : (d : ℕ) (q k l : ℕ) → odd d false q k l ≺ O ≡ false
unfolding odd
not_below_odd d zero k l = not_below_fin 0 (pos 0)
not_below_odd d (suc q) k l = not_below_fin _ _

not_below_units : (q k : ℕ) → units binary64 false q k ≺ O ≡ false
unfolding units
not_below_units q k = go (ltb (q * 2 ^ k) (2 ^ (low binary64 + suc (emax binary64))))
  where
    go : (b : Bool) → cond b (odd (suc (prec binary64)) false q k (low binary64)) (inf false) ≺ O ≡ false
    go true = not_below_odd (suc (prec binary64)) q k (low binary64)
    go false = unfold lt in unfold round in refl

pub not_below_round : (n d : ℕ) → round binary64 false n d ≺ O ≡ false
not_below_round n d = rw (round_is binary64 false n d) (not_below_units _ _)

not_above_odd : (d : ℕ) (q k l : ℕ) → O ≺ odd d true q k l ≡ false
unfolding lt round odd
not_above_odd d zero k l = refl
not_above_odd d (suc q) k l = refl

not_above_units : (q k : ℕ) → O ≺ units binary64 true q k ≡ false
unfolding units
not_above_units q k = go (ltb (q * 2 ^ k) (2 ^ (low binary64 + suc (emax binary64))))
  where
    go : (b : Bool) → O ≺ cond b (odd (suc (prec binary64)) true q k (low binary64)) (inf true) ≡ false
    go true = not_above_odd (suc (prec binary64)) q k (low binary64)
    go false = unfold lt in unfold round in refl

pub not_above_round : (n d : ℕ) → O ≺ round binary64 true n d ≡ false
not_above_round n d = rw (round_is binary64 true n d) (not_above_units _ _)

pub below_fin : (m : ℕ) (e : ℤ) → 0 < m → fin true m e ≺ O ≡ true
unfolding lt round
below_fin m e h = lt-ltb 0 (m * up e * 1 + 0 * down e) (let a : 0 < m * up e * 1 = mul-pos (mul-pos h (up_pos e)) (lit< tt) in omega arith)

-- ---- not-a-number: it differs from itself, and is below nothing
pub nan_of : (x : Float) → is_nan x ≡ true → x ≡ nan
unfolding is_nan
nan_of nan h = refl
nan_of (inf s) h = absurd (true≢false (sym h))
nan_of (fin s m e) h = absurd (true≢false (sym h))

same_fin : (s : Bool) (m : ℕ) (e : ℤ) → ne (fin s m e) (fin s m e) ≡ false
unfolding ne eq
same_fin true m e = simp (eq-eqb (m * up e * down e) (m * up e * down e) refl)
same_fin false m e = simp (eq-eqb (m * up e * down e) (m * up e * down e) refl)

pub nan_is : (x : Float) → ne x x ≡ is_nan x
unfolding is_nan
nan_is nan = nan_differs
nan_is (inf true) = unfold ne in unfold eq in refl
nan_is (inf false) = unfold ne in unfold eq in refl
nan_is (fin s m e) = same_fin s m e

pub below_some : (x y : Float) → x ≺ y ≡ true → is_nan x ≡ false
unfolding lt is_nan
below_some nan y h = absurd (true≢false (sym h))
below_some (inf s) y h = refl
below_some (fin s m e) y h = refl

-- ---- above 0.0, below it, equal to it, infinite
pub positive_of_lt : (x : Float) → finite x ≡ true → O ≺ x ≡ true → T (positive x)
unfolding lt round
positive_of_lt nan f h = absurd (true≢false (sym f))
positive_of_lt (inf s) f h = absurd (true≢false (sym f))
positive_of_lt (fin true m e) f h = absurd (true≢false (sym h))
positive_of_lt (fin false m e) f h = lt→ltb 0 m (first_pos m (up e) (first_pos (m * up e) 1 (bare (m * up e * 1) (ltb-true (0 * down e) (m * up e * 1) h))))
  where
    bare : (b : ℕ) → 0 * down e < b → 0 < b
    bare b h = let z = zero-mul (down e) in omega arith

pub lt_of_above : (x : Float) → T (above x) → O ≺ x ≡ true
unfolding lt round
lt_of_above nan p = absurd p
lt_of_above (inf true) p = absurd p
lt_of_above (inf false) p = refl
lt_of_above (fin true m e) p = absurd p
lt_of_above (fin false m e) p =
    lt-ltb (0 * down e) (m * up e * 1)
    (let a : 0 < m * up e * 1 = mul-pos (mul-pos (ltb→lt 0 m p) (up_pos e)) (lit< tt) in let z = zero-mul (down e) in omega arith)

pub positive_of_neg : (x : Float) → finite x ≡ true → x ≺ O ≡ true → T (positive (magnitude x))
unfolding lt round magnitude
positive_of_neg nan f h = absurd (true≢false (sym f))
positive_of_neg (inf s) f h = absurd (true≢false (sym f))
positive_of_neg (fin false m e) f h = absurd (below_zero (m * up e * 1) (down e) h)
positive_of_neg (fin true m e) f h = lt→ltb 0 m (first_pos m (up e) (first_pos (m * up e) 1 (bare (m * up e * 1) (ltb-true 0 (m * up e * 1 + 0 * down e) h))))
  where
    bare : (a : ℕ) → 0 < a + 0 * down e → 0 < a
    bare a h = let z = zero-mul (down e) in omega arith

pub positive_magnitude : (x : Float) → T (positive x) → magnitude x ≡ x
unfolding magnitude
positive_magnitude nan p = absurd p
positive_magnitude (inf s) p = absurd p
positive_magnitude (fin true m e) p = absurd p
positive_magnitude (fin false m e) p = refl

pub not_both_signs : (x : Float) → O ≺ x ≡ true → x ≺ O ≡ true → ⊥
unfolding lt round
not_both_signs nan h k = true≢false (sym h)
not_both_signs (inf true) h k = true≢false (sym h)
not_both_signs (inf false) h k = true≢false (sym k)
not_both_signs (fin true m e) h k = true≢false (sym h)
not_both_signs (fin false m e) h k = below_zero (m * up e * 1) (down e) k

pub neg_below : (x : Float) → neg x ≺ O ≡ O ≺ x
unfolding neg lt round
neg_below nan = refl
neg_below (inf s) = refl
neg_below (fin true m e) = le-ltb (m * up e * 1) (0 * down e) (let z = zero-mul (down e) in omega arith)
neg_below (fin false m e) =
    ap (λ (x : ℕ). ltb 0 (m * up e * 1 + x)) (zero-mul (down e)) ∙ ap (ltb 0) (add-zero (m * up e * 1))
    ∙ ap (λ (x : ℕ). ltb x (m * up e * 1)) (sym (zero-mul (down e)))

-- infinity as the quotient 1.0 / 0.0
abbrev pub infinity : Float
infinity = I ⊘ O

-- none of the four tests passed: finite and above 0
pub is_positive : (v : Float) → is_nan v ≡ false → v ≺ O ≡ false → eq v O ≡ false → eq v infinity ≡ false → T (positive v)
unfolding is_nan lt eq round div
is_positive nan n l z i = absurd (true≢false n)
is_positive (inf false) n l z i = absurd (true≢false i)
is_positive (inf true) n l z i = absurd (true≢false l)
is_positive (fin false zero e) n l z i = absurd (true≢false (sym (simp zero-mul) ∙ z))
is_positive (fin false (suc m) e) n l z i = lt→ltb 0 (suc m) (omega arith)
is_positive (fin true zero e) n l z i = absurd (true≢false (sym (simp zero-mul) ∙ z))
is_positive (fin true (suc m) e) n l z i =
    let a : 0 < suc m * up e = mul-pos (zero-lt-suc m) (up_pos e) in
    let b = ltb-false 0 (suc m * up e * 1 + 0 * 1 * down e) l in
    absurd (lt_irrefl 0 (omega arith))

-- below 0: minus infinity, or a negative number
abbrev pub Negative : Float → Type 0
Negative nan = ⊥
Negative (inf s) = s ≡ true
Negative (fin s zero e) = ⊥
Negative (fin s (suc m) e) = s ≡ true

pub is_negative : (v : Float) → v ≺ O ≡ true → Negative v
unfolding lt round
is_negative nan l = true≢false (sym l)
is_negative (inf false) l = l
is_negative (inf true) l = refl
is_negative (fin false zero e) l = let b = ltb-true (0 * up e * 1) (0 * 1 * down e) l in absurd (lt_irrefl 0 (omega arith))
is_negative (fin false (suc m) e) l = let b = ltb-true (suc m * up e * 1) (0 * 1 * down e) l in absurd (lt_irrefl 0 (omega arith))
is_negative (fin true zero e) l = let b = ltb-true 0 (0 * up e * 1 + 0 * 1 * down e) l in absurd (lt_irrefl 0 (omega arith))
is_negative (fin true (suc m) e) l = refl

-- equal to 0
abbrev pub Zero : Float → Type 0
Zero nan = ⊥
Zero (inf s) = ⊥
Zero (fin s zero e) = Unit
Zero (fin s (suc m) e) = ⊥

pub is_zero : (v : Float) → eq v O ≡ true → Zero v
unfolding eq round
is_zero nan l = true≢false (sym l)
is_zero (inf s) l = true≢false (sym l)
is_zero (fin s zero e) l = tt
is_zero (fin s (suc m) e) l =
    let a : 0 < suc m * up e = mul-pos (zero-lt-suc m) (up_pos e) in
    let b = eqb-true (suc m * up e * 1) (0 * 1 * down e)
    (and_left (eqb (suc m * up e * 1) (0 * 1 * down e)) (beq s false || eqb (suc m * up e * 1) 0) l) in
    lt_irrefl 0 (omega arith)

pub positive_not_zero : (x : Float) → T (positive x) → Zero x → ⊥
positive_not_zero nan p z = p
positive_not_zero (inf s) p z = p
positive_not_zero (fin true m e) p z = p
positive_not_zero (fin false zero e) p z = p
positive_not_zero (fin false (suc m) e) p z = z

pub is_infinity : (v : Float) → eq v infinity ≡ true → v ≡ inf false
unfolding eq round div
is_infinity nan l = absurd (true≢false (sym l))
is_infinity (inf false) l = refl
is_infinity (inf true) l = absurd (true≢false (sym l))
is_infinity (fin s m e) l = absurd (true≢false (sym l))
