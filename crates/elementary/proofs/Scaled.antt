-- v * 1.4426950408889634 + 0.5 lies from -1021.5 to 1023.375 for v from -708 to 709, and from -1074.875 for v from -745. Assumes nothing.
use mathlib.Core.Path.{◌≡◌, refl, sym, ap, ◌∙◌}
use mathlib.Core.Bool.{Bool, true, false, cond, true≢false, ◌&&◌}
use Prim.Native.Nat.{ℕ, zero, suc, ◌+◌, ◌-◌, ◌*◌, ◌/◌, ◌^◌, ◌≤◌, ◌<◌}
use native.Mathlib.Omega.{arith}
use native.Mathlib.Nat.{mul_assoc, mul_right_comm, mul-le-mul_right, le_of_mul-le-mul_right, le_trans, le_of_eq, div-lt_iff_lt-mul, lt_of_lt_of_le}
use lib.Dec.{T, ltb, lit<, lit≤, lt→ltb}
use lib.IntN.{ℤ, pos, neg_ℤ}
use lib.Ieee.{Float, nan, inf, fin, binary64, up, down, lt, le, add, sum, mul, neg, round, units, odd, is_nan}
use Rattle.floats.specs.Operators.{decimal, ◌⊗◌, ◌≺◌}
use Rattle.floats.specs.Values.{finite}
use lib.Ieee.Exact.{HasValue, round_exact}
use lib.Ieee.Fits.{add-fits, down_pos}
use lib.Ieee.Order.{round_mono, kept, drop}
use lib.Pow.{shl_lt}
use borrow.Author.Tests.{ltb-false}
use Rattle.floats.proofs.Tests.{or_le}
use Rattle.elementary.specs.Exp.{scaled, floor, LargestNotAbove}
use Rattle.elementary.specs.Steps.{spans, Small}
use Rattle.elementary.proofs.Largest.{floor_largest}

-- finite, of the sign s, and at most n / 8 in size
abbrev pub Near : Bool → ℕ → Float → Type 0
Near s n nan = ⊥
Near s n (inf t) = ⊥
Near s n (fin t m e) = (t ≡ s) × (m * up e * 8 ≤ n * down e)

-- of the sign s
abbrev Signed : Bool → Float → Type 0
Signed s nan = ⊥
Signed s (inf t) = t ≡ s
Signed s (fin t m e) = t ≡ s

units_signed : (s : Bool) (q k : ℕ) → Signed s (units binary64 s q k)
unfolding units odd
units_signed s q k = go (ltb (q * 2 ^ k) (2 ^ 2098)) q
  where
    go : (b : Bool) (q : ℕ) → Signed s (cond b (odd 54 s q k 1074) (inf s))
    go true zero = refl
    go true (suc q) = refl
    go false q = refl

round_signed : (s : Bool) (a b : ℕ) → Signed s (round binary64 s a b)
unfolding round
round_signed s a b = units_signed s (kept 53 (a * 2 ^ 1074) b) (drop 53 (a * 2 ^ 1074) b)

-- only the sign turns on the sign
units_near : (s : Bool) (n q k : ℕ) → Near false n (units binary64 false q k) → Near s n (units binary64 s q k)
unfolding units odd
units_near s n q k = go (ltb (q * 2 ^ k) (2 ^ 2098)) q
  where
    go : (b : Bool) (q : ℕ) → Near false n (cond b (odd 54 false q k 1074) (inf false)) → Near s n (cond b (odd 54 s q k 1074) (inf s))
    go true zero h = (refl, h.1)
    go true (suc q) h = (refl, h.1)
    go false q h = absurd h

round_near : (s : Bool) (n a b : ℕ) → Near false n (round binary64 false a b) → Near s n (round binary64 s a b)
unfolding round
round_near s n a b h = units_near s n (kept 53 (a * 2 ^ 1074) b) (drop 53 (a * 2 ^ 1074) b) h

at_most : (x y : Float) (n : ℕ) → Signed false x → HasValue y false n 8 → T (le x y) → Near false n x
unfolding le
at_most nan y n s v l = absurd s
at_most (inf false) nan n s v l = absurd v
at_most (inf false) (inf u) n s v l = absurd v
at_most (inf false) (fin u p d) n s v l = absurd l
at_most (inf true) y n s v l = absurd (true≢false s)
at_most (fin true m e) y n s v l = absurd (true≢false s)
at_most (fin false m e) nan n s v l = absurd v
at_most (fin false m e) (inf u) n s v l = absurd v
at_most (fin false m e) (fin true p d) n s v l = absurd (true≢false v.0)
at_most (fin false m e) (fin false p d) n s v l = (
  refl,
  le_of_mul-le-mul_right {k = down d}
      (le_trans (le_of_eq (mul_right_comm (m * up e) 8 (down d)))
      (le_trans (mul-le-mul_right 8 (or_le (m * up e * down d) (p * up d * down e) true l))
      (le_of_eq (mul_right_comm (p * up d) (down e) 8 ∙ ap (λ (z : ℕ). z * down e) v.1 ∙ mul_right_comm n (down d) (down e)))))
      (down_pos d),
)

-- a / b is at most n / 8, which is a value of the format
pub rounded : (s : Bool) (a b n : ℕ) → 0 < b → n < 9000 → a * 8 ≤ n * b → Near s n (round binary64 s a b)
rounded s a b n B N h =
    round_near s n a b
    (at_most (round binary64 false a b) (round binary64 false n 8) n (round_signed false a b)
    (round_exact binary64 false n 8 n 1071 (lit< tt) (omega arith) (fine n N) (eighths n))
    (round_mono binary64 a b n 8 B (lit< tt) h))
  where
    fine : (n : ℕ) → n < 9000 → n * 2 ^ 1071 < 2 ^ 2098
    fine n N = lt_of_lt_of_le (shl_lt 14 1071 (lt_of_lt_of_le N (lit≤ tt))) (lit≤ tt)

    eighths : (n : ℕ) → n * 2 ^ 1074 ≡ n * 2 ^ 1071 * 8
    eighths n = sym (mul_assoc n (2 ^ 1071) 8)

-- ---- the product
abbrev pub log2e : Float
log2e = decimal 14426950408889634 (10 ^ 16)

abbrev half : Float
half = decimal 1 2

-- v up to 709, and -v up to w, of which n eighths are the product
times_pos : (m : ℕ) (e : ℤ) → m * up e ≤ 709 * down e → Near false 8183 (mul binary64 (fin false m e) log2e)
unfolding mul round
times_pos m e h = let d = down_pos e in rounded false (m * up e * (3248660424278399 * 1)) (down e * 2251799813685248) 8183 (omega arith) (lit< tt) (omega arith)

times_neg : (w n m : ℕ) (e : ℤ) → n < 9000 → w * 3248660424278399 * 8 ≤ n * 2251799813685248 → m * up e ≤ w * down e
    → Near true n (mul binary64 (fin true m e) log2e)
unfolding mul round
times_neg w n m e N g h =
    let d = down_pos e in
    rounded true (m * up e * (3248660424278399 * 1)) (down e * 2251799813685248) n (omega arith) N (wide (m * up e) (down e) h)
  where
    wide : (a d : ℕ) → a ≤ w * d → a * (3248660424278399 * 1) * 8 ≤ n * (d * 2251799813685248)
    wide a d h = omega (arith, mul-le-mul_right d g)

-- ---- the sum: from -low to below 1024
pub InRange : ℕ → Float → Type 0
InRange low nan = ⊥
InRange low (inf s) = ⊥
InRange low (fin false m e) = m * up e < 1024 * down e
InRange low (fin true m e) = m * up e ≤ low * down e

weaken : (low : ℕ) (s : Bool) (n : ℕ) (x : Float) → (s ≡ false → n ≤ 8187) → (s ≡ true → n ≤ low * 8) → Near s n x → InRange low x
unfolding InRange
weaken low s n nan a b h = absurd h
weaken low s n (inf t) a b h = absurd h
weaken low s n (fin false m e) a b h = let d = down_pos e in lt_by (m * up e) (down e) n d (a (sym h.0)) h.1
  where
    lt_by : (x y n : ℕ) → 0 < y → n ≤ 8187 → x * 8 ≤ n * y → x < 1024 * y
    lt_by x y n Y N g = let k = mul-le-mul_right y N in omega arith
weaken low s n (fin true m e) a b h = le_by (m * up e) (down e) n (b (sym h.0)) h.1
  where
    le_by : (x y n : ℕ) → n ≤ low * 8 → x * 8 ≤ n * y → x ≤ low * y
    le_by x y n N g = let k = mul-le-mul_right y N in omega arith

plus_pos : (low : ℕ) (x : Float) → Near false 8183 x → InRange low (add binary64 x half)
unfolding add round sum
plus_pos low nan h = absurd h
plus_pos low (inf s) h = absurd h
plus_pos low (fin true m e) h = absurd (true≢false h.0)
plus_pos low (fin false m e) h =
    let d = down_pos e in
    weaken low false 8187 _ (λ z. lit≤ tt) (λ (z : false ≡ true). absurd (true≢false (sym z)))
    (rounded false (m * up e * 2 + 1 * 1 * down e) (down e * 2) 8187 (omega arith) (lit< tt) (omega (arith, h.1)))

-- what is not below 0 is at most a half
plus_neg : (low n : ℕ) (x : Float) → n < 9000 → n ≤ low * 8 → Near true n x → InRange low (add binary64 x half)
unfolding add round sum
plus_neg low n nan N l h = absurd h
plus_neg low n (inf s) N l h = absurd h
plus_neg low n (fin false m e) N l h = absurd (true≢false (sym h.0))
plus_neg low n (fin true m e) N l h = go (ltb (m * up e * 2) (1 * 1 * down e)) (ltb (1 * 1 * down e) (m * up e * 2)) refl
  where
    at_most_half : (a : ℕ) → a * 8 ≤ 4 * (down e * 2) → InRange low (round binary64 false a (down e * 2))
    at_most_half a g =
        let d = down_pos e in
        weaken low false 4 _ (λ z. lit≤ tt) (λ (z : false ≡ true). absurd (true≢false (sym z))) (rounded false a (down e * 2) 4 (omega arith) (lit< tt) g)

    go : (x y : Bool) → ltb (1 * 1 * down e) (m * up e * 2) ≡ y → InRange low
        (cond x (round binary64 false (1 * 1 * down e - m * up e * 2) (down e * 2)) (round binary64 (true && y) (m * up e * 2 - 1 * 1 * down e) (down e * 2)))
    go true y t = at_most_half (1 * 1 * down e - m * up e * 2) (omega arith)
    go false true t =
        let d = down_pos e in
        weaken low true n _ (λ (z : true ≡ false). absurd (true≢false z)) (λ z. l)
        (rounded true (m * up e * 2 - 1 * 1 * down e) (down e * 2) n (omega arith) N (omega (arith, h.1)))
    go false false t =
        let k = ltb-false (1 * 1 * down e) (m * up e * 2) t in
        at_most_half (m * up e * 2 - 1 * 1 * down e) (omega arith)

-- ---- v
from_zero : (low m : ℕ) (e : ℤ) → decimal 709 1 ≺ fin false m e ≡ false → InRange low (scaled (fin false m e))
unfolding lt round
from_zero low m e h =
    let k = ltb-false (709 * 1 * down e) (m * up e * 1) h in plus_pos low (mul binary64 (fin false m e) log2e) (times_pos m e (omega arith))

-- not below -(i × 2^j), of which n eighths are the product
ranged : (low n i j : ℕ) → n < 9000 → n ≤ low * 8 → i * 2 ^ j * 3248660424278399 * 8 ≤ n * 2251799813685248 → (v : Float) → is_nan v ≡ false
    → decimal 709 1 ≺ v ≡ false → v ≺ fin true i (pos j) ≡ false → InRange low (scaled v)
unfolding lt round is_nan
ranged low n i j N L G nan q h l = absurd (true≢false q)
ranged low n i j N L G (inf false) q h l = absurd (true≢false h)
ranged low n i j N L G (inf true) q h l = absurd (true≢false l)
ranged low n i j N L G (fin false m e) q h l = from_zero low m e h
ranged low n i j N L G (fin true m e) q h l =
    let k = ltb-false (i * 2 ^ j * down e) (m * up e * 1) l in
    plus_neg low n (mul binary64 (fin true m e) log2e) N L (times_neg (i * 2 ^ j) n m e N G (omega arith))

pub in_range : (v : Float) → is_nan v ≡ false → decimal 709 1 ≺ v ≡ false → v ≺ neg (decimal 745 1) ≡ false → InRange 1075 (scaled v)
unfolding neg round
in_range v = ranged 1075 8599 745 0 (lit< tt) (lit≤ tt) (lit≤ tt) v

normal_range : (v : Float) → is_nan v ≡ false → decimal 709 1 ≺ v ≡ false → v ≺ neg (decimal 708 1) ≡ false → InRange 1022 (scaled v)
unfolding neg round
normal_range v = ranged 1022 8172 177 2 (lit< tt) (lit≤ tt) (lit≤ tt) v

pub range_small : (t : Float) → InRange 1075 t → Small t
unfolding InRange
range_small nan h = absurd h
range_small (inf s) h = absurd h
range_small (fin false m e) h = let d = down_pos e in omega arith
range_small (fin true m e) h = let d = down_pos e in omega arith

pub range_exponent : (low : ℕ) (t : Float) → InRange low t → T (spans low (floor t))
unfolding InRange floor
range_exponent low nan h = absurd h
range_exponent low (inf s) h = absurd h
range_exponent low (fin false m e) h = lt→ltb (m * up e / down e) 1024 ((div-lt_iff_lt-mul {k = down e} {x = m * up e} {y = 1024} (down_pos e)).1 h)
range_exponent low (fin true m e) h =
    let d = down_pos e in
    go ((m * up e + (down e - 1)) / down e) ((div-lt_iff_lt-mul {k = down e} {x = m * up e + (down e - 1)} {y = low + 1} d).1 (omega arith))
  where
    go : (q : ℕ) → q < low + 1 → T (spans low (neg_ℤ (pos q)))
    go zero h = tt
    go (suc q) h = lt→ltb q low (omega arith)

-- the k of exp, between the limits
range_finite : (low : ℕ) (t : Float) → InRange low t → T (finite t)
unfolding InRange
range_finite low nan h = absurd h
range_finite low (inf s) h = absurd h
range_finite low (fin s m e) h = tt

pub k_range : (v : Float) → is_nan v ≡ false → decimal 709 1 ≺ v ≡ false → v ≺ neg (decimal 745 1) ≡ false → T (spans 1075 (floor (scaled v)))
k_range v n h l = range_exponent 1075 (scaled v) (in_range v n h l)

pub k_normal : (v : Float) → is_nan v ≡ false → decimal 709 1 ≺ v ≡ false → v ≺ neg (decimal 708 1) ≡ false → T (spans 1022 (floor (scaled v)))
k_normal v n h l = range_exponent 1022 (scaled v) (normal_range v n h l)

pub k_largest : (v : Float) → is_nan v ≡ false → decimal 709 1 ≺ v ≡ false → v ≺ neg (decimal 745 1) ≡ false → LargestNotAbove (scaled v) (floor (scaled v))
k_largest v n h l = floor_largest (scaled v) (add-fits binary64 (v ⊗ log2e) half) (range_finite 1075 (scaled v) (in_range v n h l))
