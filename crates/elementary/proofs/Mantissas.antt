-- The m in [1, 2) and the e of v = m * 2 ^ e, from v's digits. Assumes nothing.
use mathlib.Core.Path.{◌≡◌, refl, sym, ap, ◌∙◌, subst}
use mathlib.Core.Bool.{true, false, ◌&&◌}
use Prim.Native.Nat.{ℕ, zero, suc, ◌+◌, ◌-◌, ◌*◌, ◌/◌, ◌%◌, ◌^◌, ◌≤◌, ◌<◌}
use native.Mathlib.Omega.{arith}
use native.Mathlib.Nat.{mul_assoc, mul_right_comm, mul-one, le_trans, le_of_eq, lt_of_lt_of_le, lt_irrefl, lt_of_not-le, mul-le-mul_right}
use native.Mathlib.Nat.{eq_of_mul-eq-mul_right, suc-add}
use native.Mathlib.Decide.{dec_le}
use lib.Dec.{T, leb, ltb, eqb, lt→ltb, le→leb}
use lib.IntN.{ℤ, pos, negsuc, neg_ℤ, ◌+ℤ◌, ◌-ℤ◌}
use lib.Pow.{pow-add, pow_pos, pow_mono, shl_lt, shl-shr}
use lib.Ieee.{Float, nan, inf, fin, binary64, up, down, size, to_bits, of_bits, fits}
use lib.Ieee.Digits.{size-lt, size-le, size_reaches}
use lib.Ieee.Bits.{of_bits-to_bits}
use lib.Ieee.Fits.{and_i}
use lib.Ieee.Positive.{positive}
use borrow.Author.Tests.{lt-ltb, le-ltb}
use Rattle.elementary.specs.Ln.{TakenApart, mantissa, exponent}
use Rattle.floats.specs.Digits.{Digits}
use Rattle.floats.proofs.Whole.{significand_odd, significand_lt, exponent_fine, places, units_are, pow_le_back}

-- ---- how many digits
pub size_is : (a s : ℕ) → 2 ^ s ≤ a → a < 2 ^ suc s → size a ≡ suc s
size_is a s l h =
    let x = size-le a (suc s) h in
    let y = lt_of_not-le (λ (g : size a ≤ s). lt_irrefl a (lt_of_lt_of_le (size-lt a) (le_trans (pow_mono {i = size a} {j = s} g) l))) in
    omega arith

size_pos : (a : ℕ) → 0 < a → 0 < size a
size_pos a p = lt_of_not-le (λ (g : size a ≤ 0). lt_irrefl a (lt_of_lt_of_le (size-lt a) (le_trans (pow_mono {i = size a} {j = 0} g) p)))

pub size_shift : (a j : ℕ) → 0 < a → size (a * 2 ^ j) ≡ size a + j
size_shift a j p =
    let q = size_pos a p in
    let s = size a - 1 in
    let e : suc (size a - 1 + j) ≡ size a + j = omega arith in
    let f : suc (size a - 1) ≡ size a = omega arith in
    let lo : 2 ^ s ≤ a = size_reaches a s (omega arith) in
    let hi : a < 2 ^ suc s = subst (λ (x : ℕ). a < 2 ^ x) (sym f) (size-lt a) in
    size_is (a * 2 ^ j) (s + j) (le_trans (le_of_eq (pow-add 2 s j)) (mul-le-mul_right (2 ^ j) lo))
    (subst (λ (x : ℕ). a * 2 ^ j < 2 ^ x) (suc-add s j) (shl_lt (suc s) j hi)) ∙ e

-- ---- the digits again: with a of s + 1 digits, d is a filled to 53
module _ (a j d : ℕ) (P : 0 < a) (A : a < 9007199254740992) (W : d * 2 ^ size (a * 2 ^ j) ≡ a * 2 ^ j * 2 ^ 53) where
  abbrev s : ℕ
  s = size a - 1

  s_is : size a ≡ suc (size a - 1)
  s_is = let q = size_pos a P in omega arith

  s_le : size a - 1 ≤ 52
  s_le = let q = size-le a 53 A in omega arith

  filled : d * 2 ^ (size a - 1) ≡ a * 2 ^ 52
  filled =
      let x : size (a * 2 ^ j) ≡ size a - 1 + suc j = size_shift a j P ∙ (let q = s_is in omega arith) in
      eq_of_mul-eq-mul_right (2 ^ suc j) (pow_pos (suc j)) (d * 2 ^ s) (a * 2 ^ 52)
      (mul_assoc d (2 ^ s) (2 ^ suc j) ∙ ap (λ (y : ℕ). d * y) (sym (pow-add 2 s (suc j)))
      ∙ ap (λ (y : ℕ). d * 2 ^ y) (sym x) ∙ W ∙ mul_assoc a (2 ^ j) (2 ^ 53)
      ∙ ap (λ (y : ℕ). a * y) (sym (pow-add 2 j 53) ∙ ap (λ (y : ℕ). 2 ^ y) (let z : j + 53 ≡ 52 + suc j = omega arith in z) ∙ pow-add 2 52 (suc j))
      ∙ sym (mul_assoc a (2 ^ 52) (2 ^ suc j)))

  -- a in units of 2 ^ -1074, with the point after its first digit
  in_units : a * 2 ^ (1074 - (size a - 1)) ≡ d * 2 ^ 1022
  in_units =
      let l = s_le in
      let e : 1074 - (size a - 1) + (size a - 1) ≡ 52 + 1022 = omega arith in
      eq_of_mul-eq-mul_right (2 ^ s) (pow_pos s) (a * 2 ^ (1074 - s)) (d * 2 ^ 1022)
      (mul_assoc a (2 ^ (1074 - s)) (2 ^ s) ∙ ap (λ (y : ℕ). a * y) (sym (pow-add 2 (1074 - s) s) ∙ ap (λ (y : ℕ). 2 ^ y) e)
      ∙ sym (mul_assoc a (2 ^ 52) (2 ^ 1022)) ∙ ap (λ (y : ℕ). y * 2 ^ 1022) (sym filled) ∙ mul_right_comm d (2 ^ s) (2 ^ 1022))

-- ---- a with the point after its first digit
abbrev point : ℕ → ℤ
point a = neg_ℤ (pos (size a - 1))

down_neg : (n : ℕ) → down (neg_ℤ (pos n)) ≡ 2 ^ n
down_neg zero = refl
down_neg (suc n) = refl

up_neg : (n : ℕ) → up (neg_ℤ (pos n)) ≡ 1
up_neg zero = refl
up_neg (suc n) = refl

places_neg : (n : ℕ) → places (neg_ℤ (pos n)) ≡ 1074 - n
places_neg zero = refl
places_neg (suc n) = refl

few_digits : (a : ℕ) → a < 9007199254740992 → size a - 1 ≤ 52
few_digits a A = let q = size-le a 53 A in omega arith

point_fine : (a : ℕ) → a < 9007199254740992 → down (point a) ≤ 2 ^ 1074
point_fine a A =
    let l = few_digits a A in
    subst (λ (y : ℕ). y ≤ 2 ^ 1074) (sym (down_neg (size a - 1))) (pow_mono {i = size a - 1} {j = 1074} (omega arith))

point_small : (a s : ℕ) → a < 9007199254740992 → a * up (neg_ℤ (pos s)) < 2 ^ 1024 * down (neg_ℤ (pos s))
point_small a s h =
    rw (up_neg s, down_neg s, mul-one)
    (lt_of_lt_of_le h (le_trans (pow_mono {i = 53} {j = 1024 + s} (omega arith)) (le_of_eq (pow-add 2 1024 s))))

point_units : (a : ℕ) → a < 9007199254740992 → a * up (point a) * 2 ^ 1074 / down (point a) ≡ a * 2 ^ (1074 - (size a - 1))
point_units a A = units_are a (point a) (point_fine a A) ∙ ap (λ (y : ℕ). a * 2 ^ y) (places_neg (size a - 1))

point_fits : (m : ℕ) (e : ℤ) → T (fits binary64 (fin false (suc m) e)) → T (fits binary64 (fin false (suc m) (point (suc m))))
unfolding fits
point_fits m e f =
    let M = significand_lt false m e f in
    let A = eqb (suc m % 2) 1 in
    let B = ltb (suc m) (2 ^ 53) in
    let x = point (suc m) in
    and_i (A && B && leb (down x) (2 ^ 1074)) (ltb (suc m * up x) (2 ^ 1024 * down x))
    (and_i (A && B) (leb (down x) (2 ^ 1074)) (and_i A B (significand_odd false m e f) (lt→ltb (suc m) (2 ^ 53) M)) (le→leb _ _ (point_fine (suc m) M)))
    (lt→ltb _ _ (point_small (suc m) (size (suc m) - 1) M))

pattern_of_lem : (d n : ℕ) → n ≡ d * 2 ^ 1022 → 4503599627370496 ≤ d → d < 9007199254740992 → 0 + (size n - 53) * 4503599627370496 + n / 2 ^ (size n - 53)
    ≡ d + 4602678819172646912
pattern_of_lem d n e l h =
    let z : size n ≡ 1075 = ap size e ∙ size_shift d 1022 (omega arith) ∙ ap (λ (x : ℕ). x + 1022) (size_is d 52 l h) in
    let k : size n - 53 ≡ 1022 = omega arith in
    let w : n / 2 ^ 1022 ≡ d = ap (λ (x : ℕ). x / 2 ^ 1022) e ∙ shl-shr d 1022 in
    ap (λ (x : ℕ). 0 + x * 4503599627370496 + n / 2 ^ x) k ∙ ap (λ (x : ℕ). 0 + 1022 * 4503599627370496 + x) w ∙ (omega arith)

pub mant_is : (v : Float) (d z : ℕ) → T (fits binary64 v) → T (positive v) → Digits v d z → of_bits binary64 (d + 4602678819172646912) ≡ mantissa v
unfolding mantissa fits to_bits
mant_is nan d z f p D = absurd p
mant_is (inf s) d z f p D = absurd p
mant_is (fin true m e) d z f p D = absurd p
mant_is (fin false zero e) d z f p D = absurd p
mant_is (fin false (suc m) e) d z f p D =
    let P : 0 < suc m = omega arith in
    let M = significand_lt false m e f in
    let u = units_are (suc m) e (exponent_fine false m e f) in
    let W : d * 2 ^ size (suc m * 2 ^ places e) ≡ suc m * 2 ^ places e * 2 ^ 53 =
    ap (λ (x : ℕ). d * 2 ^ x) (sym (D.places ∙ ap size u)) ∙ D.value ∙ ap (λ (x : ℕ). x * 2 ^ 53) u in
    let s = size (suc m) - 1 in
    let n' = point_units (suc m) M ∙ in_units (suc m) (places e) d P M W in
    ap (of_bits binary64) (sym (pattern_of_lem d (suc m * up (neg_ℤ (pos s)) * 2 ^ 1074 / down (neg_ℤ (pos s))) n' D.low D.high))
    ∙ of_bits-to_bits binary64 (fin false (suc m) (neg_ℤ (pos s))) (point_fits m e f)

-- ---- the exponent
shift_places : (e : ℤ) → down e ≤ 2 ^ 1074 → (s z : ℕ) → z ≡ s + 1 + places e → pos z -ℤ pos 1075 ≡ e +ℤ pos s
shift_places (pos i) h s z q = rw (le-ltb z 1075 (omega arith)) (ap pos (omega arith))
shift_places (negsuc i) h s z q = go (dec_le (suc i) s)
  where
    l : suc i ≤ 1074
    l = pow_le_back (suc i) 1074 h

    go : Dec (suc i ≤ s) → pos z -ℤ pos 1075 ≡ negsuc i +ℤ pos s
    go (yes y) = rw (le-ltb z 1075 (let k = l in omega arith), le-ltb s (suc i) y) (ap pos (let k = l in omega arith))
    go (no f) =
        let y = lt_of_not-le f in
        rw (lt-ltb z 1075 (let k = l in omega arith), lt-ltb s (suc i) y) (ap negsuc (let k = l in omega arith))

pub expo_is : (v : Float) (d z : ℕ) → T (fits binary64 v) → T (positive v) → Digits v d z → pos z -ℤ pos 1075 ≡ exponent v
unfolding exponent
expo_is nan d z f p D = absurd p
expo_is (inf s) d z f p D = absurd p
expo_is (fin true m e) d z f p D = absurd p
expo_is (fin false zero e) d z f p D = absurd p
expo_is (fin false (suc m) e) d z f p D =
    let P : 0 < suc m = omega arith in
    let dl = exponent_fine false m e f in
    let u = D.places ∙ ap size (units_are (suc m) e dl) ∙ size_shift (suc m) (places e) P in
    let q = size_pos (suc m) P in
    shift_places e dl (size (suc m) - 1) z (omega arith)

-- ---- v = m × 2^e, with m in [1, 2)
module _ (a : ℕ) (P : 0 < a) (A : a < 9007199254740992) where
  back_up : size a - 1 + (1074 - (size a - 1)) ≡ 1074
  back_up = let l = few_digits a A in omega arith

  one_or_more : 2 ^ 1074 ≤ a * 2 ^ (1074 - (size a - 1))
  one_or_more =
      let q = size_pos a P in
      le_trans (le_of_eq (ap (λ (x : ℕ). 2 ^ x) (sym back_up) ∙ pow-add 2 (size a - 1) (1074 - (size a - 1))))
      (mul-le-mul_right (2 ^ (1074 - (size a - 1))) (size_reaches a (size a - 1) (omega arith)))

  below_two : a * 2 ^ (1074 - (size a - 1)) < 2 * 2 ^ 1074
  below_two =
      let q = size_pos a P in
      let e : size a + (1074 - (size a - 1)) ≡ 1075 = (let l = few_digits a A in omega arith) in
      lt_of_lt_of_le (shl_lt (size a) (1074 - (size a - 1)) (size-lt a)) (le_of_eq (ap (λ (x : ℕ). 2 ^ x) e))

-- 2^e, the point moved s places: in units
moved : (e : ℤ) (s : ℕ) → down e ≤ 2 ^ 1074 → s ≤ 52 → 2 ^ places e * down (e +ℤ pos s) ≡ 2 ^ (1074 - s) * up (e +ℤ pos s)
moved (pos i) s h S =
    let e : i + 1074 ≡ 1074 - s + (i + s) = omega arith in
    mul-one (2 ^ (i + 1074)) ∙ ap (λ (x : ℕ). 2 ^ x) e ∙ pow-add 2 (1074 - s) (i + s)
moved (negsuc i) s h S = go (dec_le (suc i) s)
  where
    l : suc i ≤ 1074
    l = pow_le_back (suc i) 1074 h

    go : Dec (suc i ≤ s) → 2 ^ (1074 - suc i) * down (negsuc i +ℤ pos s) ≡ 2 ^ (1074 - s) * up (negsuc i +ℤ pos s)
    go (yes y) =
        let e : 1074 - suc i ≡ 1074 - s + (s - suc i) = (let k = l in omega arith) in
        rw (le-ltb s (suc i) y) (mul-one (2 ^ (1074 - suc i)) ∙ ap (λ (x : ℕ). 2 ^ x) e ∙ pow-add 2 (1074 - s) (s - suc i))
    go (no f) =
        let y = lt_of_not-le f in
        let e : 1074 - suc i + suc (suc i - suc s) ≡ 1074 - s = (let k = l in omega arith) in
        rw (lt-ltb s (suc i) y) (sym (pow-add 2 (1074 - suc i) (suc (suc i - suc s))) ∙ ap (λ (x : ℕ). 2 ^ x) e ∙ sym (mul-one (2 ^ (1074 - s))))

pub taken_apart : (v : Float) → T (fits binary64 v) → T (positive v) → TakenApart v (mantissa v) (exponent v)
unfolding mantissa exponent
taken_apart nan f p = absurd p
taken_apart (inf s) f p = absurd p
taken_apart (fin true m e) f p = absurd p
taken_apart (fin false zero e) f p = absurd p
taken_apart (fin false (suc m) e) f p =
    let P : 0 < suc m = omega arith in
    let M = significand_lt false m e f in
    let s = size (suc m) - 1 in
    let u = point_units (suc m) M in
    let v = units_are (suc m) e (exponent_fine false m e f) in
    record {
      held = point_fits m e f;
      sign = p;
      value =
          ap (λ (x : ℕ). x * down (e +ℤ pos s)) v ∙ mul_assoc (suc m) (2 ^ places e) (down (e +ℤ pos s))
          ∙ ap (λ (x : ℕ). suc m * x) (moved e s (exponent_fine false m e f) (few_digits (suc m) M))
          ∙ sym (mul_assoc (suc m) (2 ^ (1074 - s)) (up (e +ℤ pos s))) ∙ ap (λ (x : ℕ). x * up (e +ℤ pos s)) (sym u);
      at_least_1 = subst (λ (x : ℕ). 2 ^ 1074 ≤ x) (sym u) (one_or_more (suc m) P M);
      below_2 = subst (λ (x : ℕ). x < 2 * 2 ^ 1074) (sym u) (below_two (suc m) P M);
    }
