-- The arithmetic of the root by digits: what the loops keep, what half the root is as a pattern, and what stands under the root. Assumes nothing.
use mathlib.Core.Path.{◌≡◌, refl, sym, ap, ◌∙◌, subst}
use mathlib.Core.Bool.{Bool, true, false, cond, not}
use Prim.Native.Nat.{ℕ, zero, suc, ◌+◌, ◌-◌, ◌*◌, ◌/◌, ◌%◌, ◌^◌, ◌≤◌, ◌<◌}
use native.Mathlib.Omega.{arith}
use native.Mathlib.Nat.{mul_comm, mul_assoc, div-lt_iff_lt-mul, lt_of_lt_of_le, lt_of_le_of_lt, lt_irrefl, lt_of_not-le, mul-le-mul}
use native.Mathlib.Nat.{le_antisymm, mod-lt}
use lib.Dec.{T, leb, leb→le, nleb→lt}
use lib.Pow.{pow-add, pow_mono, shl_lt, shl-shr}
use lib.Ieee.{binary64, of_bits, odd, nan_bits, is_nan}
use lib.Ieee.Bits.{nan_bits_is}
use Rattle.root.specs.Root.{whole_root, half_root}
use Rattle.floats.proofs.Pattern.{of_bits_normal}

pub root_lt : (q b : ℕ) → q * q < b * b → q < b
root_lt q b h = lt_of_not-le (λ (g : b ≤ q). lt_irrefl (b * b) (lt_of_le_of_lt (mul-le-mul g g) h))

-- ---- a round of the loop
-- with n rounds done the number under the root and the digits to come are t × 4^n, the latter at the left end of a word
pub grow : (t n : ℕ) → 4 * (t * 2 ^ (2 * n)) ≡ t * 2 ^ (2 * (n + 1))
grow t n =
    let e : 2 * n + 2 ≡ 2 * (n + 1) = omega arith in
    mul_comm 4 (t * 2 ^ (2 * n)) ∙ mul_assoc t (2 ^ (2 * n)) 4 ∙ ap (λ (x : ℕ). t * x) (sym (pow-add 2 (2 * n) 2) ∙ ap (λ (x : ℕ). 2 ^ x) e)

pub below_60 : (q rem rest t n : ℕ) → t < 2 ^ 54 → n ≤ 53 → (q * q + rem) * 2 ^ 64 + rest ≡ 2 ^ 10 * (t * 2 ^ (2 * n)) → q < 2 ^ 60
below_60 q rem rest t n T N e =
    let g : t * 2 ^ (2 * n) < 2 ^ 162 = lt_of_lt_of_le (shl_lt 54 (2 * n) T) (pow_mono {i = 54 + 2 * n} {j = 162} (omega arith)) in
    let l = root_lt q 18014398509481984 (omega arith) in omega arith

-- ---- the root of the spec
unfoldable pub IsRoot : ℕ → ℕ → Type 0
IsRoot n r = (r * r ≤ n) × (n < (r + 1) * (r + 1))

pub whole_root_unique : (n q r : ℕ) → IsRoot n q → IsRoot n r → q ≡ r
unfolding IsRoot
whole_root_unique n q r a b = le_antisymm (go q r a.0 b.1) (go r q b.0 a.1)
  where
    go : (x y : ℕ) → x * x ≤ n → n < (y + 1) * (y + 1) → x ≤ y
    go x y l h = let g = root_lt x (y + 1) (lt_of_le_of_lt l h) in omega arith

pub whole_root_is : (k n : ℕ) → n < 2 ^ (2 * k) → IsRoot n (whole_root k n)
unfolding whole_root IsRoot
whole_root_is zero n h = let e : n < 1 = h in (omega arith, omega arith)
whole_root_is (suc k) n h =
    let e : 2 * suc k ≡ 2 * k + 2 = omega arith in
    let b : n / 4 < 2 ^ (2 * k) = (div-lt_iff_lt-mul {k = 4} {x = n} {y = 2 ^ (2 * k)} (omega arith)).1
    (subst (λ (x : ℕ). n < x) (ap (λ (x : ℕ). 2 ^ x) e ∙ pow-add 2 (2 * k) 2) h) in
    let i = whole_root_is k (n / 4) b in
    go (whole_root k (n / 4)) i.0 i.1
  where
    pick : (r : ℕ) → r * r ≤ n → n < (r + 2) * (r + 2) → (b : Bool) → (T b → (r + 1) * (r + 1) ≤ n) → (T (not b) → n < (r + 1) * (r + 1))
        → (cond b (r + 1) r * cond b (r + 1) r ≤ n) × (n < (cond b (r + 1) r + 1) * (cond b (r + 1) r + 1))
    pick r l h true f g = (f tt, let e : (r + 2) * (r + 2) ≡ (r + 1 + 1) * (r + 1 + 1) = omega arith in omega arith)
    pick r l h false f g = (l, g tt)

    go : (r : ℕ) → r * r ≤ n / 4 → n / 4 < (r + 1) * (r + 1)
        → (cond (leb ((2 * r + 1) * (2 * r + 1)) n) (2 * r + 1) (2 * r) * cond (leb ((2 * r + 1) * (2 * r + 1)) n) (2 * r + 1) (2 * r) ≤ n)
        × (n < (cond (leb ((2 * r + 1) * (2 * r + 1)) n) (2 * r + 1) (2 * r) + 1) * (cond (leb ((2 * r + 1) * (2 * r + 1)) n) (2 * r + 1) (2 * r) + 1))
    go r l h =
        pick (2 * r) (omega arith) (omega arith) (leb ((2 * r + 1) * (2 * r + 1)) n) (leb→le ((2 * r + 1) * (2 * r + 1)) n)
        (nleb→lt ((2 * r + 1) * (2 * r + 1)) n)

odd_no_nan : (r k : ℕ) → is_nan (odd 53 false r k 1074) ≡ false
unfolding odd is_nan
odd_no_nan zero k = refl
odd_no_nan (suc r) k = refl

half_is_no_nan : (n k : ℕ) → is_nan (half_root n k) ≡ false
unfolding half_root
half_is_no_nan n k = odd_no_nan _ k

-- ---- half the root, rounded, has 53 digits
module _ (t q : ℕ) (lo : 4503599627370496 ≤ t) (hi : t + 1 < 18014398509481984) (a : q * q ≤ t * 18014398509481984)
    (b : t * 18014398509481984 < (q + 1) * (q + 1)) where
  pub q_ge : 9007199254740992 ≤ q
  q_ge = let g = root_lt 9007199254740992 (q + 1) (omega arith) in omega arith

  pub q_lt : q < 18014398509481983
  q_lt = root_lt q 18014398509481983 (omega arith)

  pub is_whole_root : whole_root 54 (t * 18014398509481984) ≡ q
  unfolding IsRoot
  is_whole_root = whole_root_unique (t * 18014398509481984) (whole_root 54 (t * 18014398509481984)) q (whole_root_is 54 (t * 18014398509481984) below) (a, b)
    where
      below : t * 18014398509481984 < 2 ^ 108
      below = omega arith

  module _ (k : ℕ) (K : k < 2046) where
    pub pattern : (q + 1) / 2 + k * 4503599627370496 ≡ suc k * 4503599627370496 + ((q + 1) / 2 - 4503599627370496)
    pattern = let g = q_ge in omega arith

    pub half_bits : of_bits binary64 ((q + 1) / 2 + k * 4503599627370496) ≡ half_root (t * 18014398509481984) k
    unfolding half_root
    half_bits =
        let g = q_ge in
        let l = q_lt in
        let e : 4503599627370496 + ((q + 1) / 2 - 4503599627370496) ≡ (q + 1) / 2 = omega arith in
        ap (of_bits binary64) pattern
        ∙ of_bits_normal k ((q + 1) / 2 - 4503599627370496) K (omega arith)
        ∙ ap (λ (x : ℕ). odd 53 false x k 1074) e
        ∙ ap (λ (x : ℕ). odd 53 false ((x + 1) / 2) k 1074) (sym is_whole_root)

    pub half_no_nan : T (not (nan_bits binary64 ((q + 1) / 2 + k * 4503599627370496)))
    half_no_nan =
        subst (λ (x : Bool). T (not x))
        (sym (nan_bits_is binary64 ((q + 1) / 2 + k * 4503599627370496) ∙ ap is_nan half_bits ∙ half_is_no_nan (t * 18014398509481984) k)) tt

-- ---- what stands under the root
module _ (n d z : ℕ) (e : d * 2 ^ z ≡ n * 2 ^ 53) where
  whole_units : n * 2 ^ 1076 ≡ d * 2 ^ (z + 1023)
  whole_units =
      sym (mul_assoc n (2 ^ 53) (2 ^ 1023)) ∙ ap (λ (x : ℕ). x * 2 ^ 1023) (sym e) ∙ mul_assoc d (2 ^ z) (2 ^ 1023)
      ∙ ap (λ (x : ℕ). d * x) (sym (pow-add 2 z 1023))

  cut_mul : (c j : ℕ) → z + 1023 ≡ c + j → n * 2 ^ 1076 ≡ d * 2 ^ c * 2 ^ j
  cut_mul c j f = whole_units ∙ ap (λ (x : ℕ). d * 2 ^ x) f ∙ ap (λ (x : ℕ). d * x) (pow-add 2 c j) ∙ sym (mul_assoc d (2 ^ c) (2 ^ j))

  cut : (c : ℕ) → (j : ℕ) → z + 1023 ≡ c + j → n * 2 ^ 1076 / 2 ^ j ≡ d * 2 ^ c
  cut c j f = ap (λ (x : ℕ). x / 2 ^ j) (cut_mul c j f) ∙ shl-shr (d * 2 ^ c) j

  pub under_even : z % 2 ≡ 0 → n * 2 ^ 1076 / 2 ^ (2 * ((z + 969) / 2)) ≡ 2 * d * 18014398509481984
  under_even h = cut 55 (2 * ((z + 969) / 2)) (omega arith) ∙ (let g : d * 36028797018963968 ≡ 2 * d * 18014398509481984 = omega arith in g)

  odd_part : (z % 2 ≡ 0 → ⊥) → z % 2 ≡ 1
  odd_part h = go (z % 2) (mod-lt z (omega arith)) h
    where
      go : (r : ℕ) → r < 2 → (r ≡ 0 → ⊥) → r ≡ 1
      go zero l f = absurd (f refl)
      go (suc r) l f = omega arith

  pub under_odd : (z % 2 ≡ 0 → ⊥) → n * 2 ^ 1076 / 2 ^ (2 * ((z + 969) / 2)) ≡ d * 18014398509481984
  under_odd h = let g = odd_part h in cut 54 (2 * ((z + 969) / 2)) (omega arith)

  pub under_even_mul : z % 2 ≡ 0 → n * 2 ^ 1076 ≡ 2 * d * 18014398509481984 * 2 ^ (2 * ((z + 969) / 2))
  under_even_mul h =
      cut_mul 55 (2 * ((z + 969) / 2)) (omega arith)
      ∙ ap (λ (x : ℕ). x * 2 ^ (2 * ((z + 969) / 2))) (let g : d * 36028797018963968 ≡ 2 * d * 18014398509481984 = omega arith in g)

  pub under_odd_mul : (z % 2 ≡ 0 → ⊥) → n * 2 ^ 1076 ≡ d * 18014398509481984 * 2 ^ (2 * ((z + 969) / 2))
  under_odd_mul h = let g = odd_part h in cut_mul 54 (2 * ((z + 969) / 2)) (omega arith)
