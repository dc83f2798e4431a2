-- Bounds that rounding keeps. A whole number of units of 2^-1074 with at most 53 digits, ended by zeros, is short: what is at most a short number rounds to
-- at most that number. So the bounds of a chain of operations need no rounding error. Assumes nothing.
use mathlib.Core.Path.{◌≡◌, refl, sym, ap, ◌∙◌, subst}
use Prim.Native.Nat.{ℕ, zero, suc, ◌+◌, ◌-◌, ◌*◌, ◌/◌, ◌^◌, ◌≤◌, ◌<◌, zero-le}
use native.Mathlib.Nat.{le_of_eq, lt_of_lt_of_le, lt_of_le_of_lt, lt_of_not-le, not-le_of_lt, mul-pos, mul_assoc, mul-le-mul_left, mul-le-mul_right}
use native.Mathlib.Nat.{div-mul-le_self, lt-div-mul-add, div-lt_iff_lt-mul, le-div_iff_mul-le, lt_of_mul-lt-mul_right}
use native.Mathlib.Nat.{mul-lt-mul_of_pos_right, zero-mul}
use native.Mathlib.Omega.{arith}
use mathlib.Core.Bool.{Bool, true, false, true≢false}
use lib.IntN.{ℤ}
use lib.Dec.{T, lit<}
use lib.Pow.{pow-add, pow_pos, pow_mono, shl_lt}
use lib.Ieee.{Float, nan, inf, fin, binary64, up, down, unlike, lt, le, eq, mul, round, fits, size}
use lib.Ieee.Fits.{down_pos}
use lib.Ieee.Digits.{size-lt, size_reaches, size-le}
use lib.Ieee.Order.{round_mono, le_of_values}
use lib.Ieee.Exact.{HasValue, round_exact}
use lib.Ieee.Positive.{through}
use Rattle.floats.specs.Operators.{◌≼◌, ◌⊗◌}
use Rattle.floats.specs.Values.{magnitude, finite}
use Rattle.floats.proofs.Tests.{or_le}
use Rattle.floats.proofs.Rounding.{magnitude_round}
use Rattle.floats.proofs.Whole.{places, places_down, significand_lt, exponent_fine, value_small}

pub record Short (w : ℕ) : Type 0 where
  pub digits : ℕ
  pub zeros : ℕ
  pub is : w ≡ digits * 2 ^ zeros
  pub few : digits < 2 ^ 53
  pub small : w < 2 ^ 2098

-- finite, and of magnitude at most w units
abbrev pub AtMost : ℕ → Float → Type 0
AtMost w nan = ⊥
AtMost w (inf s) = ⊥
AtMost w (fin s m e) = m * up e * 2 ^ 1074 ≤ w * down e

pub most_finite : (w : ℕ) (x : Float) → AtMost w x → finite x ≡ true
most_finite w nan h = absurd h
most_finite w (inf s) h = absurd h
most_finite w (fin s m e) h = refl

pub short_value : (w : ℕ) → Short w → HasValue (round binary64 false w (2 ^ 1074)) false w (2 ^ 1074)
short_value w h = round_exact binary64 false w (2 ^ 1074) h.digits h.zeros (pow_pos 1074) h.few (subst (λ (x : ℕ). x < 2 ^ 2098) h.is h.small)
    (ap (λ (x : ℕ). x * 2 ^ 1074) h.is)

pub most_of_le : (w : ℕ) (x y : Float) → HasValue y false w (2 ^ 1074) → T (magnitude x ≼ y) → AtMost w x
unfolding le lt eq magnitude
most_of_le w x nan v h = absurd v
most_of_le w x (inf t) v h = absurd v
most_of_le w x (fin true n d) v h = absurd (true≢false v.0)
most_of_le w nan (fin false n d) v h = h
most_of_le w (inf s) (fin false n d) v h = h
most_of_le w (fin s m e) (fin false n d) v h =
    through (m * up e) (n * up d) w (down e) (down d) (2 ^ 1074) (down_pos d) (or_le (m * up e * down d) (n * up d * down e) true h) (le_of_eq v.1)

-- THE LAW
pub most_round : (w : ℕ) (s : Bool) (n d : ℕ) → Short w → 0 < d → n * 2 ^ 1074 ≤ w * d → AtMost w (round binary64 s n d)
most_round w s n d h D l =
    most_of_le w (round binary64 s n d) (round binary64 false w (2 ^ 1074)) (short_value w h)
    (subst (λ (x : Float). T (x ≼ round binary64 false w (2 ^ 1074))) (sym (magnitude_round binary64 s n d))
    (round_mono binary64 n d w (2 ^ 1074) D (pow_pos 1074) l))

-- ---- small numbers times a power of two, and the number that a float itself is
pub short_of : (q j : ℕ) → q < 64 → j ≤ 2000 → Short (q * 2 ^ j)
short_of q j h l = record {
  digits = q;
  zeros = j;
  is = refl;
  few = omega arith;
  small = lt_of_lt_of_le (shl_lt 6 j h)
      (pow_mono {i = 6 + j} {j = 2098} (omega arith));
}

pub record Own (m : ℕ) (e : ℤ) : Type 0 where
  pub count : ℕ
  pub short : Short count
  pub exact : m * up e * 2 ^ 1074 ≡ count * down e

pub own : (s : Bool) (m : ℕ) (e : ℤ) → T (fits binary64 (fin s m e)) → Own m e
own s zero e f = record { count = 0; short = short_of 0 0 (lit< tt) zero-le; exact = simp zero-mul }
own s (suc m) e f =
    let h = exponent_fine s m e f in
    let x : suc m * up e * 2 ^ 1074 ≡ suc m * 2 ^ places e * down e =
    mul_assoc (suc m) (up e) (2 ^ 1074) ∙ ap (λ (z : ℕ). suc m * z) (sym (places_down e h)) ∙ sym (mul_assoc (suc m) (2 ^ places e) (down e)) in
    record {
      count = suc m * 2 ^ places e;
      short = record {
        digits = suc m;
        zeros = places e;
        is = refl;
        few = significand_lt s m e f;
        small = under (suc m * up e) (down e) (2 ^ 1074) (2 ^ 1024)
            (suc m * 2 ^ places e) (pow_pos 1074) x (value_small s m e f);
      };
      exact = x;
    }
  where
    under : (a d k c w : ℕ) → 0 < k → a * k ≡ w * d → a < c * d → w < c * k
    under a d k c w K x h =
        lt_of_mul-lt-mul_right d
        (let l = mul-lt-mul_of_pos_right h K in
        let z : w * d < c * k * d = omega arith in z)

-- at most a value of v units or more
pub le_of_most : (v : ℕ) (x : Float) (i : ℕ) (g : ℤ) → AtMost v x → v * down g ≤ i * up g * 2 ^ 1074 → T (magnitude x ≼ fin false i g)
unfolding magnitude
le_of_most v nan i g h l = absurd h
le_of_most v (inf s) i g h l = absurd h
le_of_most v (fin s m e) i g h l =
    le_of_values (fin false m e) (fin false i g) (m * up e) (down e) (i * up g) (down g) (down_pos e) (down_pos g) (refl, refl) (refl, refl)
    (through (m * up e) v (i * up g) (down e) (2 ^ 1074) (down g) (pow_pos 1074) h l)

-- ---- a product with a constant
scaled : (a m k w v dg de : ℕ) → m * k ≤ w * de → a * w ≤ v * dg → a * m * k ≤ v * (dg * de)
scaled a m k w v dg de h l = omega (arith, mul-le-mul_left a h, mul-le-mul_right de l)

pub most_scale : (i : ℕ) (g : ℤ) (w v : ℕ) (x : Float) → Short v → i * up g * w ≤ v * down g → AtMost w x → AtMost v (fin false i g ⊗ x)
unfolding mul
most_scale i g w v nan s h l = absurd l
most_scale i g w v (inf t) s h l = absurd l
most_scale i g w v (fin t m e) s h l =
    most_round v (unlike false t) (i * up g * (m * up e)) (down g * down e) s (mul-pos (down_pos g) (down_pos e))
    (scaled (i * up g) (m * up e) (2 ^ 1074) w v (down g) (down e) l h)

-- ---- a fraction of 16 units to 16 lies in a quarter: from i to i + 1 times a power of two, i from 4 to 7
pub record Quarter (n d : ℕ) : Type 0 where
  pub i : ℕ
  pub j : ℕ
  pub from_4 : 4 ≤ i
  pub to_7 : i < 8
  pub small : j ≤ 1900
  pub lower : i * 4 * 2 ^ j * d ≤ n * 2 ^ 1074
  pub upper : n * 2 ^ 1074 ≤ (i + 1) * 4 * 2 ^ j * d

pub quarter : (n d : ℕ) → 0 < d → 16 * d ≤ n * 2 ^ 1074 → n ≤ 16 * d → Quarter n d
quarter n d D h l =
    let w = n * 2 ^ 1074 / d in
    let s = size w in
    let least : 16 ≤ w = (le-div_iff_mul-le D).1 h in
    let most : w < 2 ^ 1079 = (div-lt_iff_lt-mul D).1 (lt_of_le_of_lt (mul-le-mul_right (2 ^ 1074) l) (widened d (2 ^ 1074) D (pow_pos 1074))) in
    let big : 5 ≤ s = lt_of_not-le (λ (k : s ≤ 4). not-le_of_lt (lt_of_lt_of_le (size-lt w) (pow_mono k)) least) in
    let fit : s ≤ 1079 = size-le w 1079 most in
    let j = s - 5 in
    let e : s ≡ 5 + j = omega arith in
    let p : 0 < 4 * 2 ^ j = mul-pos (lit< tt) (pow_pos j) in
    let x : w < 2 ^ 5 * 2 ^ j = subst (λ (y : ℕ). w < y) (ap (λ (y : ℕ). 2 ^ y) e ∙ pow-add 2 5 j) (size-lt w) in
    let z : 2 ^ 4 * 2 ^ j ≤ w = subst (λ (y : ℕ). y ≤ w) (pow-add 2 4 j) (size_reaches w (4 + j) (omega arith)) in
    record {
      i = w / (4 * 2 ^ j);
      j = j;
      from_4 = (le-div_iff_mul-le p).1 (omega arith);
      to_7 = (div-lt_iff_lt-mul p).1 (omega arith);
      small = omega arith;
      lower = from (w / (4 * 2 ^ j)) (2 ^ j) d w (n * 2 ^ 1074) (div-mul-le_self w (4 * 2 ^ j)) (div-mul-le_self (n * 2 ^ 1074) d);
      upper = to (w / (4 * 2 ^ j)) (2 ^ j) d w (n * 2 ^ 1074) (lt-div-mul-add p) (lt-div-mul-add D);
    }
  where
    widened : (d k : ℕ) → 0 < d → 0 < k → 16 * d * k < 32 * k * d
    widened d k D K = let a : 0 < d * k = mul-pos D K in omega arith

    from : (i t d w n : ℕ) → i * (4 * t) ≤ w → w * d ≤ n → i * 4 * t * d ≤ n
    from i t d w n h l = omega (arith, mul-le-mul_right d h)

    to : (i t d w n : ℕ) → w < i * (4 * t) + 4 * t → n < w * d + d → n ≤ (i + 1) * 4 * t * d
    to i t d w n h l = omega (arith, mul-le-mul_right d h)
