-- exp is above 0.0 from -745 up: the sum p lies between 33 / 64 and 95 / 64, so that p × 2^k is above 0.0 where 2^k is a float; and below -708 the products by
-- 2^(k + 200) and by 2^-200 are p × 2^k rounded once, which is more than half of the least float. Assumes nothing.
use mathlib.Core.Path.{◌≡◌, refl, sym, ap, ◌∙◌, subst}
use Prim.Native.Nat.{ℕ, suc, ◌+◌, ◌-◌, ◌*◌, ◌^◌, ◌≤◌}
use native.Mathlib.Nat.{le_trans, le_of_eq, mul-pos, mul-le-mul_left, mul-le-mul_right, one-mul, lt_of_not-le}
use native.Mathlib.Decide.{dec_le}
use native.Mathlib.Omega.{arith}
use mathlib.Core.Bool.{true, false, true≢false}
use lib.IntN.{ℤ, pos, negsuc, ◌+ℤ◌}
use lib.Dec.{T, lit<, lit≤, ltb→lt, lt→ltb}
use lib.Pow.{pow-add, pow_pos, pow_mono}
use borrow.Author.Tests.{lt-ltb}
use lib.Ieee.{Float, nan, inf, fin, binary64, up, down, neg, round, mul, is_nan, fits}
use lib.Ieee.Fits.{down_pos}
use lib.Ieee.Order.{round_mono}
use lib.Ieee.Positive.{positive, above, above_of_le}
use Rattle.floats.specs.Operators.{decimal, ◌⊗◌, ◌≺◌}
use Rattle.floats.proofs.Signs.{O, lt_of_above}
use Rattle.floats.proofs.Tests.{split}
use Rattle.floats.proofs.Short.{AtMost}
use Rattle.floats.proofs.Bounds.{Bounded, AtLeast, Clear, power_short, least_product, negative_mul, above_of}
use Rattle.floats.proofs.Grid.{least_less}
use Rattle.floats.proofs.Lowered.{lowered_once}
use Rattle.elementary.specs.Tables.{E, polynomial}
use Rattle.elementary.specs.Exp.{floor, scaled, remainder, two_to}
use Rattle.elementary.specs.Steps.{in_exponent}
use Rattle.elementary.proofs.Powers.{power_bound, fraction_power}
use Rattle.elementary.proofs.Scaled.{k_normal}
use Rattle.elementary.proofs.Remainder.{remainder_small, remainder_least, k_deep}
use Rattle.elementary.proofs.Horner.{From, sum_fits, sum_upper, sum_lower, sum_above_one}

-- ---- powers of two
whole_power : (n : ℕ) → 1 * 2 ^ n * 2 ^ 1074 ≡ 2 ^ (n + 1074)
whole_power n = ap (λ (z : ℕ). z * 2 ^ 1074) (one-mul (2 ^ n)) ∙ sym (pow-add 2 n 1074)

-- 2^-(j + 1)
fraction_least : (i j : ℕ) → i + j ≤ 1073 → AtLeast (2 ^ i) (two_to (negsuc j))
fraction_least i j h = le_trans (le_of_eq (sym (pow-add 2 i (suc j)))) (pow_mono {i = i + suc j} {j = 1074} (omega arith))

power_most : (k : ℤ) → T (in_exponent k) → Bounded 2097 (two_to k)
power_most (pos n) h = power_bound 1023 n (let l = ltb→lt n 1024 h in omega arith)
power_most (negsuc n) h = fraction_power 1023 n

power_least : (k : ℤ) → T (in_exponent k) → AtLeast (2 ^ 52) (two_to k)
power_least (pos n) h = le_trans (pow_mono {i = 52} {j = n + 1074} (omega arith)) (le_of_eq (sym (whole_power n)))
power_least (negsuc n) h = fraction_least 52 n (let l = ltb→lt n 1022 h in omega arith)

power_clear : (k : ℤ) → Clear (two_to k)
power_clear k = refl

-- 2^(k + 200)
raised : (i : ℕ) → 200 ≤ i → negsuc i +ℤ pos 200 ≡ negsuc (i - 200)
raised i h = rw (lt-ltb 200 (suc i) (omega arith)) (ap negsuc (omega arith))

-- ---- a product by 2^-(i + 1) whose value is 33 / 64 of the least float or more: that float, or more
half_above : T (positive (round binary64 false 33 (64 * 2 ^ 1074)))
unfolding round
half_above = tt

lowered_above : (c i : ℕ) (x : Float) → 33 * 2 ^ suc i ≤ c * 2 ^ 1074 → From c x → T (above (x ⊗ two_to (negsuc i)))
unfolding mul
lowered_above c i nan g (z, h) = absurd z
lowered_above c i (inf s) g (z, h) = absurd z
lowered_above c i (fin true m e) g (z, h) = absurd (true≢false z)
lowered_above c i (fin false m e) g (z, h) =
    above_of_le (round binary64 false 33 (64 * 2 ^ 1074)) (round binary64 false (m * up e * (1 * 1)) (down e * 2 ^ suc i)) half_above
    (round_mono binary64 33 (64 * 2 ^ 1074) (m * up e * (1 * 1)) (down e * 2 ^ suc i) (lit< tt) (mul-pos (down_pos e) (pow_pos (suc i)))
    (go (m * up e) (down e) (2 ^ suc i) (2 ^ 1068) g h))
  where
    go : (a d t w : ℕ) → 33 * t ≤ c * (64 * w) → c * w * d ≤ a * (64 * w) → 33 * (d * t) ≤ a * (1 * 1) * (64 * (64 * w))
    go a d t w g h = omega (arith, mul-le-mul_right d g)

-- ---- exp, by its products
module _ (v : Float) (fit : T (fits binary64 v)) (number : is_nan v ≡ false) (high : decimal 709 1 ≺ v ≡ false) (low : v ≺ neg (decimal 745 1) ≡ false) where
  abbrev k : ℤ
  k = floor (scaled v)

  abbrev p : Float
  p = polynomial E 13 (remainder v k)

  small : AtMost (23 * 2 ^ 1068) (remainder v k)
  small = remainder_small v fit number high low

  pub at_k_most : AtMost (95 * 2 ^ 1068) p
  at_k_most = sum_upper (remainder v k) small

  sum_least : From 33 p
  sum_least = sum_lower (remainder v k) small

  normal_above : v ≺ neg (decimal 708 1) ≡ false → O ≺ p ⊗ two_to k ≡ true
  normal_above h =
      let e = k_normal v number high h in
      lt_of_above (p ⊗ two_to k)
      (above_of (2 ^ 51) (p ⊗ two_to k) (pow_pos 51)
      (least_product (33 * 2 ^ 1068) (2 ^ 52) (2 ^ 51) (95 * 2 ^ 1068) (2 ^ 2097) p (two_to k) (power_short 51 (lit< tt)) (lit≤ tt) at_k_most (power_most k e)
      sum_least.1 (power_least k e))
      (negative_mul p (two_to k) sum_least.0 (power_clear k)))

  deep_above : (i : ℕ) → k ≡ negsuc i → i ≤ 1074 → T (above (p ⊗ two_to (negsuc i)))
  deep_above i e l = go (dec_le i 1073)
    where
      go : Dec (i ≤ 1073) → T (above (p ⊗ two_to (negsuc i)))
      go (yes y) = lowered_above 33 i p (mul-le-mul_left {m = 2 ^ suc i} {n = 2 ^ 1074} 33 (pow_mono {i = suc i} {j = 1074} (omega arith))) sum_least
      go (no n) =
          let m = lt_of_not-le n in
          let t : i ≡ 1074 = omega arith in
          lowered_above 68 i p (subst (λ (z : ℕ). 33 * 2 ^ suc z ≤ 68 * 2 ^ 1074) (sym t) (lit≤ tt))
          (sum_above_one (remainder v k) small (remainder_least v fit number high low (e ∙ ap negsuc t)))

  far_above : v ≺ neg (decimal 708 1) ≡ true → O ≺ p ⊗ two_to k ≡ true
  far_above h =
      let d = k_deep v fit number high low h in
      ap (λ (z : ℤ). O ≺ p ⊗ two_to z) d.is ∙ lt_of_above (p ⊗ two_to (negsuc d.i)) (deep_above d.i d.is d.upto)

  pub at_k_above : O ≺ p ⊗ two_to k ≡ true
  at_k_above = split (v ≺ neg (decimal 708 1)) far_above normal_above

  -- below -708 the two products are p × 2^k rounded once
  pub far_once : v ≺ neg (decimal 708 1) ≡ true → p ⊗ two_to (k +ℤ pos 200) ⊗ two_to (negsuc 199) ≡ p ⊗ two_to k
  far_once h = let d = k_deep v fit number high low h in go d.i d.is d.from d.upto
    where
      go : (i : ℕ) → k ≡ negsuc i → 1020 ≤ i → i ≤ 1074 → p ⊗ two_to (k +ℤ pos 200) ⊗ two_to (negsuc 199) ≡ p ⊗ two_to k
      go i e h l =
          ap (λ (z : ℤ). p ⊗ two_to z ⊗ two_to (negsuc 199)) (ap (λ (z : ℤ). z +ℤ pos 200) e ∙ raised i (omega arith))
          ∙ lowered_once p (i - 200) 199 i (omega arith) (sum_fits (remainder v k)) sum_least.0
          (least_less (33 * 2 ^ 1068) (2 ^ 1073) p (lit≤ tt) sum_least.1) (omega arith)
          ∙ ap (λ (z : ℤ). p ⊗ two_to z) (sym e)

  -- and 2^(k + 200) is a float
  pub far_exponent : v ≺ neg (decimal 708 1) ≡ true → T (in_exponent (k +ℤ pos 200))
  far_exponent h = let d = k_deep v fit number high low h in go d.i d.is d.from d.upto
    where
      go : (i : ℕ) → k ≡ negsuc i → 1020 ≤ i → i ≤ 1074 → T (in_exponent (k +ℤ pos 200))
      go i e h l =
          subst (λ (z : ℤ). T (in_exponent z)) (sym (ap (λ (z : ℤ). z +ℤ pos 200) e ∙ raised i (omega arith))) (lt→ltb (i - 200) 1022 (omega arith))
