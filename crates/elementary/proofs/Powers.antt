-- 2 ^ k, for k from -1022 to 1023, as the pattern whose field is k + 1023, and its size. Assumes nothing.
use mathlib.Core.Path.{◌≡◌, refl, sym, ap, ◌∙◌}
use mathlib.Core.Bool.{false, not}
use Prim.Native.Nat.{ℕ, suc, ◌+◌, ◌-◌, ◌*◌, ◌^◌, ◌≤◌, ◌<◌}
use native.Mathlib.Omega.{arith}
use native.Mathlib.Nat.{add-zero, le_trans, le_of_eq, mul-le-mul_left, mul-le-mul_right}
use lib.Dec.{T, ltb→lt}
use lib.IntN.{ℤ, pos, negsuc, ◌+ℤ◌}
use lib.Pow.{pow-add, pow_pos, pow_mono}
use lib.Count.{count_trailing_zeros}
use lib.Ieee.{fin, binary64, of_bits, odd, nan_bits, minus, is_nan}
use lib.Ieee.Bits.{nan_bits_is}
use borrow.Author.Tests.{lt-leb, le-leb, le-ltb}
use Rattle.elementary.specs.Exp.{two_to}
use Rattle.elementary.specs.Steps.{in_exponent}
use Rattle.floats.proofs.Bounds.{Bounded}
use Rattle.floats.proofs.Pattern.{of_bits_normal}

-- k + 1022
abbrev pub bias : ℤ → ℕ
bias (pos n) = n + 1022
bias (negsuc n) = 1021 - n

pub bias_lt : (k : ℤ) → T (in_exponent k) → bias k < 2046
bias_lt (pos n) h = let l = ltb→lt n 1024 h in omega arith
bias_lt (negsuc n) h = omega arith

pub biased : (k : ℤ) → T (in_exponent k) → k +ℤ pos 1023 ≡ pos (suc (bias k))
biased (pos n) h = ap pos (omega arith)
biased (negsuc n) h =
    let l = ltb→lt n 1022 h in
    rw (le-ltb 1023 (suc n) (omega arith)) (ap pos (omega arith))

unbiased : (k : ℤ) → T (in_exponent k) → minus (bias k + 52) 1074 ≡ k
unbiased (pos n) h = rw (le-leb 1074 (n + 1022 + 52) (omega arith)) (ap pos (omega arith))
unbiased (negsuc n) h =
    let l = ltb→lt n 1022 h in
    rw (lt-leb 1074 (1021 - n + 52) (omega arith)) (ap negsuc (omega arith))

one_bit : (x : ℕ) → odd 53 false (4503599627370496 + 0) x 1074 ≡ fin false 1 (minus (x + 52) 1074)
unfolding odd count_trailing_zeros
one_bit x = refl

pub two_is : (k : ℤ) → T (in_exponent k) → of_bits binary64 (suc (bias k) * 4503599627370496) ≡ fin false 1 k
two_is k h =
    ap (of_bits binary64) (sym (add-zero (suc (bias k) * 4503599627370496)))
    ∙ of_bits_normal (bias k) 0 (bias_lt k h) (omega arith)
    ∙ one_bit (bias k)
    ∙ ap (fin false 1) (unbiased k h)

pub two_no_nan : (k : ℤ) → T (in_exponent k) → T (not (nan_bits binary64 (suc (bias k) * 4503599627370496)))
unfolding is_nan
two_no_nan k h = rw (nan_bits_is, two_is k h) tt

-- ---- how large it is
pub power_bound : (u n : ℕ) → n ≤ u → Bounded (u + 1074) (two_to (pos n))
power_bound u n h = go (2 ^ 1074) (2 ^ n) (2 ^ (u + 1074)) (le_trans (mul-le-mul_right (2 ^ 1074) (pow_mono h)) (le_of_eq (sym (pow-add 2 u 1074))))
  where
    go : (k p r : ℕ) → p * k ≤ r → 1 * p * k ≤ r * 1
    go k p r h = omega arith

pub fraction_power : (u n : ℕ) → Bounded (u + 1074) (two_to (negsuc n))
fraction_power u n = go (2 ^ 1074) (2 ^ (u + 1074)) (2 ^ suc n) (pow_mono {i = 1074} {j = u + 1074} (omega arith)) (pow_pos (suc n))
  where
    go : (k r d : ℕ) → k ≤ r → 0 < d → 1 * 1 * k ≤ r * d
    go k r d h D = omega (arith, mul-le-mul_left {m = 1} {n = d} r D)
