-- What the pattern of a positive finite f64 says of its digits. Assumes nothing.
use mathlib.Core.Path.{◌≡◌, refl, sym, ap, ◌∙◌, subst}
use mathlib.Core.Bool.{true, false, ◌&&◌}
use Prim.Native.Nat.{ℕ, zero, suc, ◌+◌, ◌-◌, ◌*◌, ◌/◌, ◌%◌, ◌^◌, ◌≤◌, ◌<◌}
use native.Mathlib.Omega.{arith}
use native.Mathlib.Nat.{mul_assoc, zero-add, div-one, le_trans, le_of_eq, lt_of_lt_of_le, lt_irrefl, lt_of_not-le, le_of_mul-le-mul_right, mul-le-mul_right}
use native.Mathlib.Nat.{mul-pos, mul-div_cancel, zero-lt-suc}
use native.Mathlib.Decide.{dec_le}
use lib.Dec.{T, ltb→lt, lt→ltb}
use borrow.Author.Tests.{lt-ltb}
use lib.Pow.{pow-add, pow_pos, pow_mono, shl_lt, shl-shr, shl_exact}
use lib.Count.{count_leading_zeros, leading_top}
use lib.Ieee.{Float, nan, inf, fin, binary64, size, to_bits, fits, lt, round, div}
use lib.Ieee.Digits.{size-lt, size-le, size_reaches}
use lib.Ieee.Fits.{kept-lt}
use lib.Ieee.Positive.{positive}
use Rattle.floats.specs.Wholes.{units_of}
use Rattle.floats.proofs.Whole.{significand_lt, exponent_fine, value_small, places, units_are, units_lt}
use Rattle.floats.specs.declared.Parts.{Parts}
use Rattle.floats.specs.Operators.{◌≺◌}
use Rattle.floats.specs.Digits.{Digits, PartsLaw, parts_of}
use Rattle.floats.proofs.Tests.{split, holds, true_of}
use Rattle.floats.proofs.Signs.{O, infinity, positive_of_lt, lt_of_above}

-- ---- whole numbers: n = m * 2 ^ j, with m of at most 53 digits
module _ (m j : ℕ) (P : 0 < m) (M : m < 9007199254740992) where
  abbrev n : ℕ
  n = m * 2 ^ j

  abbrev z : ℕ
  z = size (m * 2 ^ j)

  abbrev k : ℕ
  k = size (m * 2 ^ j) - 53

  abbrev w : ℕ
  w = m * 2 ^ j / 2 ^ (size (m * 2 ^ j) - 53)

  k_le : size (m * 2 ^ j) - 53 ≤ j
  k_le = let h = size-le (m * 2 ^ j) (53 + j) (shl_lt 53 j M) in omega arith

  refill : m * 2 ^ (j - (size (m * 2 ^ j) - 53)) * 2 ^ (size (m * 2 ^ j) - 53) ≡ m * 2 ^ j
  refill =
      let l = k_le in
      let e : j - (size (m * 2 ^ j) - 53) + (size (m * 2 ^ j) - 53) ≡ j = omega arith in
      mul_assoc m (2 ^ (j - k)) (2 ^ k) ∙ ap (λ (x : ℕ). m * x) (sym (pow-add 2 (j - k) k) ∙ ap (λ (x : ℕ). 2 ^ x) e)

  exact : w * 2 ^ k ≡ m * 2 ^ j
  exact = ap (λ (x : ℕ). x / 2 ^ k * 2 ^ k) (sym refill) ∙ ap (λ (x : ℕ). x * 2 ^ k) (shl-shr (m * 2 ^ (j - k)) k) ∙ refill

  w_lt : w < 9007199254740992
  w_lt = kept-lt 53 (m * 2 ^ j)

  w_ge : 53 ≤ z → 4503599627370496 ≤ w
  w_ge h =
      le_of_mul-le-mul_right {k = 2 ^ k}
      (le_trans (le_of_eq (sym (pow-add 2 52 k))) (le_trans (size_reaches (m * 2 ^ j) (52 + k) (omega arith)) (le_of_eq (sym exact))))
      (pow_pos k)

  -- fewer than 53 digits
  few : z < 53 → w ≡ m * 2 ^ j
  few h = let e : size (m * 2 ^ j) - 53 ≡ 0 = omega arith in ap (λ (x : ℕ). m * 2 ^ j / 2 ^ x) e ∙ div-one (m * 2 ^ j)

  few_lt : z < 53 → m * 2 ^ j < 4503599627370496
  few_lt h = lt_of_lt_of_le (size-lt (m * 2 ^ j)) (pow_mono {i = z} {j = 52} (omega arith))

  abbrev b : ℕ
  b = k * 4503599627370496 + w

  -- the field is 0
  pub short : b < 4503599627370496 → (z < 53) × (b ≡ m * 2 ^ j)
  short h = go (dec_le 53 z)
    where
      go : Dec (53 ≤ z) → (z < 53) × (b ≡ m * 2 ^ j)
      go (yes y) = let g = w_ge y in absurd (lt_irrefl 4503599627370496 (omega arith))
      go (no f) =
          let l = lt_of_not-le f in
          let q = few l in
          (l, omega arith)

  -- and it is not
  pub long : 4503599627370496 ≤ b → (53 ≤ z) × (b % 4503599627370496 + 4503599627370496 ≡ w) × (b / 4503599627370496 + 52 ≡ z)
  long h = go (dec_le 53 z)
    where
      go : Dec (53 ≤ z) → (53 ≤ z) × (b % 4503599627370496 + 4503599627370496 ≡ w) × (b / 4503599627370496 + 52 ≡ z)
      go (yes y) =
          let g = w_ge y in
          let l = w_lt in
          (y, omega arith, omega arith)
      go (no f) =
          let l = lt_of_not-le f in
          let q = few l in
          let r = few_lt l in
          absurd (lt_irrefl 4503599627370496 (omega arith))

  pub long_value : 53 ≤ z → w * 2 ^ z ≡ m * 2 ^ j * 2 ^ 53
  long_value y =
      let e : size (m * 2 ^ j) ≡ (size (m * 2 ^ j) - 53) + 53 = omega arith in
      ap (λ (x : ℕ). w * 2 ^ x) e ∙ ap (λ (x : ℕ). w * x) (pow-add 2 k 53) ∙ sym (mul_assoc w (2 ^ k) (2 ^ 53)) ∙ ap (λ (x : ℕ). x * 2 ^ 53) exact

-- ---- the digits of a number below 2 ^ 52, by its leading zeros
module _ (n : ℕ) (P : 0 < n) (B : n < 4503599627370496) where
  top : (i : ℕ) × (count_leading_zeros 64 n + suc i ≡ 64) × (2 ^ i ≤ n) × (n < 2 ^ suc i)
  top = leading_top 64 n P (lt_of_lt_of_le B (pow_mono {i = 52} {j = 64} (omega arith)))

  top_lt : top.0 < 52
  top_lt = lt_of_not-le (λ (h : 52 ≤ top.0). lt_irrefl n (lt_of_lt_of_le B (le_trans (pow_mono {i = 52} {j = top.0} h) top.2)))

  size_top : size n ≡ suc top.0
  size_top =
      let a = size-le n (suc top.0) top.3 in
      let b = lt_of_not-le (λ (h : size n ≤ top.0). lt_irrefl n (lt_of_lt_of_le (size-lt n) (le_trans (pow_mono {i = size n} {j = top.0} h) top.2))) in
      omega arith

  pub zeros_ge : 12 ≤ count_leading_zeros 64 n
  zeros_ge = let a = top_lt in let e = top.1 in omega arith

  pub zeros_le : count_leading_zeros 64 n ≤ 64
  zeros_le = let e = top.1 in omega arith

  pub zeros_size : 64 - count_leading_zeros 64 n ≡ size n
  zeros_size = let e = top.1 in let s = size_top in omega arith

  abbrev sh : ℕ
  sh = count_leading_zeros 64 n - 11

  sh_is : suc top.0 + sh ≡ 53
  sh_is = let a = top_lt in let e = top.1 in omega arith

  pub shifted : (n * 2 ^ (count_leading_zeros 64 n - 11)) % 2 ^ 64 ≡ n * 2 ^ (count_leading_zeros 64 n - 11)
  shifted = shl_exact (suc top.0) sh 64 top.3 (let e = sh_is in omega arith)

  pub shifted_lt : n * 2 ^ (count_leading_zeros 64 n - 11) < 2 ^ 53
  shifted_lt = subst (λ (x : ℕ). n * 2 ^ sh < 2 ^ x) sh_is (shl_lt (suc top.0) sh top.3)

  pub shifted_ge : 2 ^ 52 ≤ n * 2 ^ (count_leading_zeros 64 n - 11)
  shifted_ge =
      let e : top.0 + sh ≡ 52 = let s = sh_is in omega arith in
      le_trans (le_of_eq (ap (λ (x : ℕ). 2 ^ x) (sym e) ∙ pow-add 2 top.0 sh)) (mul-le-mul_right (2 ^ sh) top.2)

  pub shifted_value : n * 2 ^ (count_leading_zeros 64 n - 11) * 2 ^ size n ≡ n * 2 ^ 53
  shifted_value =
      let e : sh + size n ≡ 53 = let s = sh_is in let t = size_top in omega arith in
      mul_assoc n (2 ^ sh) (2 ^ size n) ∙ ap (λ (x : ℕ). n * x) (sym (pow-add 2 sh (size n)) ∙ ap (λ (x : ℕ). 2 ^ x) e)

-- ---- a positive float's pattern
module _ (v : Float) (F : T (fits binary64 v)) (P : T (positive v)) where
  pub shape : (m : ℕ) × (j : ℕ) × (0 < m) × (m < 9007199254740992) × (units_of v ≡ m * 2 ^ j)
      × (to_bits binary64 v ≡ (size (m * 2 ^ j) - 53) * 4503599627370496 + m * 2 ^ j / 2 ^ (size (m * 2 ^ j) - 53))
  unfolding to_bits
  shape = go v F P
    where
      go : (v : Float) → T (fits binary64 v) → T (positive v)
          → (m : ℕ) × (j : ℕ) × (0 < m) × (m < 9007199254740992) × (units_of v ≡ m * 2 ^ j) ×
          (to_bits binary64 v ≡ (size (m * 2 ^ j) - 53) * 4503599627370496 + m * 2 ^ j / 2 ^ (size (m * 2 ^ j) - 53))
      go nan f p = absurd p
      go (inf s) f p = absurd p
      go (fin true m e) f p = absurd p
      go (fin false zero e) f p = absurd p
      go (fin false (suc m) e) f p =
          let u = units_are (suc m) e (exponent_fine false m e f) in (
            suc m,
            places e,
            ltb→lt 0 (suc m) p,
            significand_lt false m e f,
            u,
            ap (λ (n : ℕ). 0 + (size n - 53) * 4503599627370496 + n / 2 ^ (size n - 53)) u
                ∙ ap (λ (x : ℕ). x + suc m * 2 ^ places e / 2 ^ (size (suc m * 2 ^ places e) - 53))
                (zero-add ((size (suc m * 2 ^ places e) - 53) * 4503599627370496)),
          )

  pub places_lt : size (units_of v) < 2099
  places_lt = go v F P
    where
      go : (v : Float) → T (fits binary64 v) → T (positive v) → size (units_of v) < 2099
      go nan f p = absurd p
      go (inf s) f p = absurd p
      go (fin true m e) f p = absurd p
      go (fin false zero e) f p = absurd p
      go (fin false (suc m) e) f p =
          let l = size-le (units_of (fin false (suc m) e)) 2098 (units_lt (suc m) e (value_small false m e f)) in
          omega arith

  abbrev b' : ℕ
  b' = to_bits binary64 v

  -- the field is 0: the pattern is the units
  pub low_units : b' < 4503599627370496 → b' ≡ units_of v
  low_units h =
      let s = shape in
      s.5 ∙ (short s.0 s.1 s.2 s.3 (subst (λ (x : ℕ). x < 4503599627370496) s.5 h)).1 ∙ sym s.4

  pub low_pos : b' < 4503599627370496 → 0 < b'
  low_pos h =
      let s = shape in
      subst (λ (x : ℕ). 0 < x) (sym (low_units h ∙ s.4)) (mul-pos s.2 (pow_pos s.1))

  pub low_digits : b' < 4503599627370496 → Digits v (b' * 2 ^ (count_leading_zeros 64 b' - 11) % 18446744073709551616) (64 - count_leading_zeros 64 b')
  low_digits h =
      let p = low_pos h in
      let u = low_units h in
      let x = shifted b' p h in
      record {
        value = rw (x, zeros_size b' p h) (shifted_value b' p h ∙ ap (λ (n : ℕ). n * 2 ^ 53) u);
        places = zeros_size b' p h ∙ ap size u;
        low = rw x (shifted_ge b' p h);
        high = rw x (shifted_lt b' p h);
        small = subst (λ (y : ℕ). y < 2099) (sym (zeros_size b' p h ∙ ap size u)) places_lt;
      }

  pub high_digits : 4503599627370496 ≤ b' → Digits v (b' % 4503599627370496 + 4503599627370496) (b' / 4503599627370496 + 52)
  high_digits h =
      let s = shape in
      let l = long s.0 s.1 s.2 s.3 (subst (λ (x : ℕ). 4503599627370496 ≤ x) s.5 h) in
      let t : b' % 4503599627370496 + 4503599627370496 ≡ s.0 * 2 ^ s.1 / 2 ^ (size (s.0 * 2 ^ s.1) - 53) = ap
      (λ (x : ℕ). x % 4503599627370496 + 4503599627370496) s.5 ∙ l.1 in
      let z : b' / 4503599627370496 + 52 ≡ size (s.0 * 2 ^ s.1) = ap (λ (x : ℕ). x / 4503599627370496 + 52) s.5 ∙ l.2 in
      record {
        value = rw (t, z, s.4) (long_value s.0 s.1 s.2 s.3 l.0);
        places = z ∙ ap size (sym s.4);
        low = rw t (w_ge s.0 s.1 s.2 s.3 l.0);
        high = rw t (w_lt s.0 s.1 s.2 s.3);
        small = subst (λ (y : ℕ). y < 2099) (sym (z ∙ ap size (sym s.4))) places_lt;
      }

-- ---- both numbers are read off the float
cut_digits : (v : Float) (t z : ℕ) → Digits v t z → t ≡ units_of v * 2 ^ 53 / 2 ^ size (units_of v)
cut_digits v t z D =
    sym (ap (λ (n : ℕ). n / 2 ^ size (units_of v)) (sym D.value) ∙ ap (λ (n : ℕ). t * 2 ^ n / 2 ^ size (units_of v)) D.places
    ∙ mul-div_cancel t (pow_pos (size (units_of v))))

pub parts_are : (v : Float) (r : Parts) → T (positive v) → Digits v r.digits r.size → r ≡ parts_of v
unfolding parts_of
parts_are v r p D =
    rw (true_of (positive v) p)
    (ap (λ (t : ℕ). record { digits = t; size = r.size }) (cut_digits v r.digits r.size D)
    ∙ ap (λ (z : ℕ). record { digits = units_of v * 2 ^ 53 / 2 ^ size (units_of v); size = z }) D.places)

pub digits_of : (v : Float) → T (fits binary64 v) → T (positive v) → Digits v (parts_of v).digits (parts_of v).size
digits_of v F P = go (dec_le 4503599627370496 (to_bits binary64 v))
  where
    at_parts : (t z : ℕ) → Digits v t z → Digits v (parts_of v).digits (parts_of v).size
    at_parts t z D = subst (λ (r : Parts). Digits v r.digits r.size) (parts_are v (record { digits = t; size = z }) P D) D

    go : Dec (4503599627370496 ≤ to_bits binary64 v) → Digits v (parts_of v).digits (parts_of v).size
    go (yes y) = at_parts _ _ (high_digits v F P y)
    go (no f) = at_parts _ _ (low_digits v F P (lt_of_not-le f))

pub digits_are : (v : Float) (r : Parts) → fits binary64 v ≡ true → T (positive v) → r ≡ parts_of v → Digits v r.digits r.size
digits_are v r f p e = subst (λ (r : Parts). Digits v r.digits r.size) (sym e) (digits_of v (holds _ f) p)

pub parts_law : PartsLaw
parts_law = record { of_positive = digits_of }

-- the two tests of the code are `positive`
pub positive_tests : (v : Float) → (O ≺ v && v ≺ infinity) ≡ positive v
unfolding lt round div
positive_tests nan = refl
positive_tests (inf true) = refl
positive_tests (inf false) = refl
positive_tests (fin true m e) = refl
positive_tests (fin false zero e) =
    split (O ≺ fin false zero e) (λ t. absurd (positive_of_lt (fin false zero e) refl t)) (λ t. rw t)
positive_tests (fin false (suc m) e) =
    let l = lt-ltb 0 (suc m) (zero-lt-suc m) in
    rw (lt_of_above (fin false (suc m) e) (lt→ltb 0 (suc m) (zero-lt-suc m)), l)
