-- What lies next to an f64 of 53 digits: no f64 is strictly between it and the next, a step of its last digit away, or half a step below a power of
-- two. Assumes nothing.
use mathlib.Core.Path.{◌≡◌, refl, sym, ap, ◌∙◌, subst}
use mathlib.Core.Bool.{true, false}
use Prim.Native.Nat.{ℕ, zero, suc, ◌+◌, ◌-◌, ◌*◌, ◌/◌, ◌^◌, ◌≤◌, ◌<◌}
use native.Mathlib.Omega.{arith}
use native.Mathlib.Nat.{mul_assoc, zero-mul, le_trans, le_of_eq, le_of_lt, lt_of_lt_of_le, lt_irrefl, lt_of_not-le, mul-le-mul_right, lt_of_mul-lt-mul_right}
use native.Mathlib.Nat.{mul-div_cancel, div-eq_of_lt}
use native.Mathlib.Decide.{dec_le}
use lib.Dec.{T}
use lib.Pow.{pow-add, pow_mono, shl_lt}
use lib.Ieee.{Float, nan, inf, fin, binary64, up, down, odd, fits, size, to_bits, of_bits}
use lib.Ieee.Exact.{HasValue, odd_sign}
use lib.Ieee.Fits.{down_pos}
use lib.Ieee.Bits.{of_bits-to_bits}
use lib.Ieee.Positive.{positive}
use Rattle.floats.specs.Wholes.{units_of}
use Rattle.floats.proofs.Whole.{significand_lt, exponent_fine, places, units_are}
use Rattle.floats.specs.Values.{not_negative}

-- ---- a float's units
value_units : (x : Float) (a : ℕ) → HasValue x false a (2 ^ 1074) → units_of x ≡ a
value_units nan a h = absurd h
value_units (inf s) a h = absurd h
value_units (fin s m e) a h = ap (λ (n : ℕ). n / down e) h.1 ∙ mul-div_cancel a (down_pos e)

pub odd_units : (r k : ℕ) → units_of (odd 53 false r k 1074) ≡ r * 2 ^ k
odd_units r k = value_units (odd 53 false r k 1074) (r * 2 ^ k) (odd_sign 53 false r k 1074)

pub fit_units : (y : Float) → T (fits binary64 y) → T (not_negative y) → (m : ℕ) × (j : ℕ) × (m < 9007199254740992) × (units_of y ≡ m * 2 ^ j)
fit_units nan f p = absurd p
fit_units (inf s) f p = absurd p
fit_units (fin s zero e) f p = (0, 0, omega arith, ap (λ (n : ℕ). n * 2 ^ 1074 / down e) (zero-mul (up e)) ∙ div-eq_of_lt (down_pos e))
fit_units (fin s (suc m) e) f p = (suc m, places e, significand_lt s m e f, units_are (suc m) e (exponent_fine s m e f))

-- ---- whole numbers: r of 53 digits, times 2 ^ k, and m of at most 53, times 2 ^ j
coarse : (m j k : ℕ) → k ≤ j → m * 2 ^ j ≡ m * 2 ^ (j - k) * 2 ^ k
coarse m j k h =
    let e : j ≡ j - k + k = omega arith in
    ap (λ (x : ℕ). m * 2 ^ x) e ∙ ap (λ (x : ℕ). m * x) (pow-add 2 (j - k) k) ∙ sym (mul_assoc m (2 ^ (j - k)) (2 ^ k))

fine : (m j k : ℕ) → m < 9007199254740992 → j < k → m * 2 ^ j < 4503599627370496 * 2 ^ k
fine m j k M h = lt_of_lt_of_le (shl_lt 53 j M) (le_trans (pow_mono {i = 53 + j} {j = 52 + k} (omega arith)) (le_of_eq (pow-add 2 52 k)))

pub next_up : (r k m j : ℕ) → 4503599627370496 ≤ r → m < 9007199254740992 → r * 2 ^ k < m * 2 ^ j → (r + 1) * 2 ^ k ≤ m * 2 ^ j
next_up r k m j R M h = go (dec_le k j)
  where
    go : Dec (k ≤ j) → (r + 1) * 2 ^ k ≤ m * 2 ^ j
    go (yes y) =
        let e = coarse m j k y in
        let l = lt_of_mul-lt-mul_right (2 ^ k) {m = r} {n = m * 2 ^ (j - k)} (subst (λ (x : ℕ). r * 2 ^ k < x) e h) in
        le_trans (mul-le-mul_right (2 ^ k) (let g : r + 1 ≤ m * 2 ^ (j - k) = omega arith in g)) (le_of_eq (sym e))
    go (no f) = absurd (lt_irrefl (r * 2 ^ k) (lt_of_lt_of_le h (le_trans (le_of_lt (fine m j k M (lt_of_not-le f))) (mul-le-mul_right (2 ^ k) R))))

-- the next below is a step down, or r is a power of two
pub next_down : (r k m j : ℕ) → 4503599627370496 < r → m < 9007199254740992 → m * 2 ^ j < r * 2 ^ k → m * 2 ^ j + 2 ^ k ≤ r * 2 ^ k
next_down r k m j R M h = go (dec_le k j)
  where
    step : (a : ℕ) → a < r → a * 2 ^ k + 2 ^ k ≤ r * 2 ^ k
    step a l =
        le_trans (le_of_eq (let e : a * 2 ^ k + 2 ^ k ≡ (a + 1) * 2 ^ k = omega arith in e)) (mul-le-mul_right (2 ^ k) (let g : a + 1 ≤ r = omega arith in g))

    go : Dec (k ≤ j) → m * 2 ^ j + 2 ^ k ≤ r * 2 ^ k
    go (yes y) =
        let e = coarse m j k y in
        let l = lt_of_mul-lt-mul_right (2 ^ k) {m = m * 2 ^ (j - k)} {n = r} (subst (λ (x : ℕ). x < r * 2 ^ k) e h) in
        subst (λ (x : ℕ). x + 2 ^ k ≤ r * 2 ^ k) (sym e) (step (m * 2 ^ (j - k)) l)
    go (no f) = let l = fine m j k M (lt_of_not-le f) in let g = step 4503599627370496 R in omega arith

-- ---- floats above 0 are told apart by their units
-- the pattern of a float above 0 is read off its units
abbrev pattern_of : ℕ → ℕ
pattern_of n = 0 + (size n - 53) * 4503599627370496 + n / 2 ^ (size n - 53)

pattern_is : (x : Float) → T (positive x) → to_bits binary64 x ≡ pattern_of (units_of x)
unfolding to_bits
pattern_is nan p = absurd p
pattern_is (inf s) p = absurd p
pattern_is (fin true m e) p = absurd p
pattern_is (fin false m e) p = refl

pub same_units : (x y : Float) → T (fits binary64 x) → T (fits binary64 y) → T (positive x) → T (positive y) → units_of x ≡ units_of y → x ≡ y
same_units x y fx fy px py e =
    sym (of_bits-to_bits binary64 x fx)
    ∙ ap (of_bits binary64) (pattern_is x px ∙ ap pattern_of e ∙ sym (pattern_is y py))
    ∙ of_bits-to_bits binary64 y fy

pub positive_not_negative : (x : Float) → T (positive x) → T (not_negative x)
positive_not_negative nan p = p
positive_not_negative (inf s) p = p
positive_not_negative (fin true m e) p = p
positive_not_negative (fin false m e) p = tt
