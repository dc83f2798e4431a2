-- A float of at least 1 / 2 times 2^-(j + 1) is exact while j is at most 1020: no digit falls below the least float. So a product with a power of two further
-- down, made in two steps, is rounded once. Assumes nothing.
use mathlib.Core.Path.{◌≡◌, refl, sym, ap, ◌∙◌, subst}
use Prim.Native.Nat.{ℕ, suc, ◌+◌, ◌-◌, ◌*◌, ◌^◌, ◌≤◌, ◌<◌}
use native.Mathlib.Nat.{le_trans, le_of_eq, lt_of_lt_of_le, lt_of_le_of_lt, lt_irrefl, lt_of_not-le, mul-pos, mul-one, mul_assoc, mul-le-mul_left}
use native.Mathlib.Nat.{le_of_mul-le-mul_right}
use native.Mathlib.Decide.{dec_le}
use native.Mathlib.Omega.{arith}
use mathlib.Core.Bool.{true, false, true≢false}
use lib.IntN.{ℤ, negsuc}
use lib.Dec.{T}
use lib.Pow.{pow-add, pow_pos, pow_mono, shl_lt}
use lib.Ieee.{Float, nan, inf, fin, binary64, up, down, mul, round, fits}
use lib.Ieee.Exact.{HasValue, round_exact}
use lib.Ieee.Fits.{down_pos}
use lib.Ieee.Positive.{first_pos, positive_of_value, mul_at}
use Rattle.floats.specs.Operators.{◌⊗◌}
use Rattle.floats.proofs.Short.{Short, Own, own}
use Rattle.floats.proofs.Bounds.{AtLeast, Clear}

-- what is at least 2^1073 and has at most 53 digits ends in 1021 zeros
many_zeros : (w : ℕ) (s : Short w) → 2 ^ 1073 ≤ w → 1021 ≤ s.zeros
many_zeros w s h = go (dec_le 1021 s.zeros)
  where
    go : Dec (1021 ≤ s.zeros) → 1021 ≤ s.zeros
    go (yes y) = y
    go (no n) =
        let l = lt_of_not-le n in
        let u : w < 2 ^ (53 + s.zeros) = subst (λ (z : ℕ). z < 2 ^ (53 + s.zeros)) (sym s.is) (shl_lt 53 s.zeros s.few) in
        absurd (lt_irrefl (2 ^ 1073) (lt_of_le_of_lt h (lt_of_lt_of_le u (pow_mono {i = 53 + s.zeros} {j = 1073} (omega arith)))))

module _ (m : ℕ) (e : ℤ) (o : Own m e) (h : AtLeast (2 ^ 1073) (fin false m e)) (j : ℕ) (l : j ≤ 1020) where
  abbrev num : ℕ
  num = m * up e * (1 * 1)

  abbrev den : ℕ
  den = down e * 2 ^ suc j

  zeros_many : 1021 ≤ o.short.zeros
  zeros_many = many_zeros o.count o.short (le_of_mul-le-mul_right {k = down e} (le_trans h (le_of_eq o.exact)) (down_pos e))

  -- the digits, with as many zeros less
  left : o.count ≡ o.short.digits * 2 ^ (o.short.zeros - suc j) * 2 ^ suc j
  left =
      let z = zeros_many in
      let t : o.short.zeros ≡ o.short.zeros - suc j + suc j = omega arith in
      o.short.is
      ∙ ap (λ (x : ℕ). o.short.digits * 2 ^ x) t
      ∙ ap (λ (x : ℕ). o.short.digits * x) (pow-add 2 (o.short.zeros - suc j) (suc j))
      ∙ sym (mul_assoc o.short.digits (2 ^ (o.short.zeros - suc j)) (2 ^ suc j))

  lowered_exact : HasValue (round binary64 false num den) false num den
  lowered_exact =
      round_exact binary64 false num den o.short.digits (o.short.zeros - suc j) (mul-pos (down_pos e) (pow_pos (suc j))) o.short.few
      (lt_of_le_of_lt (less (o.short.digits * 2 ^ (o.short.zeros - suc j)) (2 ^ suc j) o.count (pow_pos (suc j)) left) o.short.small)
      (go (m * up e) (2 ^ 1074) (down e) (2 ^ suc j) o.count (o.short.digits * 2 ^ (o.short.zeros - suc j)) o.exact left)
    where
      less : (a p c : ℕ) → 0 < p → c ≡ a * p → a ≤ c
      less a p c P e = omega (arith, mul-le-mul_left {m = 1} {n = p} a P)

      go : (a K d p c q : ℕ) → a * K ≡ c * d → c ≡ q * p → a * (1 * 1) * K ≡ q * (d * p)
      go a K d p c q x y = let z = ap (λ (t : ℕ). t * d) y in omega arith

  above_0 : 0 < num
  above_0 =
      let z = first_pos (m * up e) (2 ^ 1074) (lt_of_lt_of_le (mul-pos (pow_pos 1073) (down_pos e)) h) in subst (λ (x : ℕ). 0 < x) (sym (mul-one (m * up e))) z

  lowered_more : (t i : ℕ) → suc j + suc t ≡ suc i → round binary64 false num den ⊗ fin false 1 (negsuc t) ≡ round binary64 false num (down e * 2 ^ suc i)
  lowered_more t i w =
      mul_at binary64 (round binary64 false num den) (fin false 1 (negsuc t)) num den 1 (2 ^ suc t)
      (positive_of_value (round binary64 false num den) num den lowered_exact above_0) tt (mul-pos (down_pos e) (pow_pos (suc j))) (pow_pos (suc t))
      lowered_exact (refl, refl)
      ∙ ap (λ (x : ℕ). round binary64 false x (den * 2 ^ suc t)) (mul-one num)
      ∙ ap (λ (x : ℕ). round binary64 false num x)
      (mul_assoc (down e) (2 ^ suc j) (2 ^ suc t) ∙ ap (λ (x : ℕ). down e * x) (sym (pow-add 2 (suc j) (suc t)) ∙ ap (λ (x : ℕ). 2 ^ x) w))

-- THE LAW
pub lowered_once : (x : Float) (j t i : ℕ) → suc j + suc t ≡ suc i → T (fits binary64 x) → Clear x → AtLeast (2 ^ 1073) x → j ≤ 1020
    → x ⊗ fin false 1 (negsuc j) ⊗ fin false 1 (negsuc t) ≡ x ⊗ fin false 1 (negsuc i)
unfolding mul
lowered_once nan j t i w f c h l = absurd c
lowered_once (inf s) j t i w f c h l = absurd c
lowered_once (fin true m e) j t i w f c h l = absurd (true≢false c)
lowered_once (fin false m e) j t i w f c h l = lowered_more m e (own false m e f) h j l t i w
