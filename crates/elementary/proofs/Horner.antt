-- The sum over table E at what is at most 23 / 64 in size: from 33 / 64 to 95 / 64, and at least 68 / 64 where that is at least 8 / 64. Assumes nothing.
use mathlib.Core.Path.{◌≡◌, refl, sym, subst}
use Prim.Native.Nat.{ℕ, zero, suc, ◌+◌, ◌-◌, ◌*◌, ◌^◌, ◌≤◌, ◌<◌}
use native.Mathlib.Nat.{le_trans, mul-le-mul_left, mul-le-mul_right}
use native.Mathlib.Omega.{arith}
use mathlib.Core.Bool.{false}
use lib.Dec.{T, lit<, lit≤}
use lib.Pow.{pow_pos}
use lib.Ieee.{Float, binary64, round, fits}
use lib.Ieee.Fits.{add-fits, mul-fits, round-fits}
use Rattle.floats.specs.Operators.{◌⊕◌, ◌⊗◌}
use Rattle.floats.proofs.Short.{AtMost, most_round}
use Rattle.floats.proofs.Bounds.{AtLeast, Clear, few_short, clear_of, most_mul, least_product, negative_mul}
use Rattle.floats.proofs.Grid.{Reads, Sized, within_add, read, one_sided, reads_least, most_of, clear_of_read, least_of}
use Rattle.elementary.specs.Tables.{factorial, E, horner, polynomial}

-- ---- the table
six : (j : ℕ) → 6 ≤ factorial (suc (suc (suc j)))
unfolding factorial
six zero = lit≤ tt
six (suc j) = go (suc (suc (suc j))) (factorial (suc (suc (suc j)))) (six j)
  where
    go : (n f : ℕ) → 6 ≤ f → 6 ≤ suc n * f
    go n f h = let z : suc n * f ≡ n * f + f = omega arith in omega arith

sixth : (c j : ℕ) → c < 1024 → 64 ≤ c * 6 → AtMost (c * 2 ^ 1068) (E (suc (suc (suc j))))
unfolding E
sixth c j C h =
    most_round (c * 2 ^ 1068) false 1 (factorial (suc (suc (suc j)))) (few_short c 1068 C (lit≤ tt)) (let s = six j in omega arith)
    (go (2 ^ 1068) (factorial (suc (suc (suc j)))) (six j))
  where
    go : (w f : ℕ) → 6 ≤ f → 1 * (64 * w) ≤ c * w * f
    go w f l = let k : 64 ≤ c * f = le_trans h (mul-le-mul_left c l) in omega (arith, mul-le-mul_right w k)

E_fits : (i : ℕ) → T (fits binary64 (E i))
unfolding E
E_fits i = round-fits binary64 false 1 (factorial i)

E_0 : Reads (E 0) (2 ^ 1074) 0
unfolding E factorial round
E_0 = (refl, refl)

E_1 : Reads (E 1) (2 ^ 1074) 0
unfolding E factorial round
E_1 = (refl, refl)

E_2 : AtMost (32 * 2 ^ 1068) (E 2)
unfolding E factorial
E_2 = most_round (32 * 2 ^ 1068) false 1 2 (few_short 32 1068 (lit< tt) (lit≤ tt)) (lit< tt) (lit≤ tt)

-- ---- a sum, in 64ths
few : (a p n : ℕ) → a < 1024 → Sized (a * 2 ^ 1068) p n → Sized (2048 * 2 ^ 1074) p n
few a p n h (k, l) = (go (2 ^ 1068) p k, go (2 ^ 1068) n l)
  where
    go : (w p : ℕ) → p ≤ a * w → p ≤ 2048 * (64 * w)
    go w p k = omega (arith, mul-le-mul_right w h)

sum_most : (a b c : ℕ) (x y : Float) → a + b < c → c < 1024 → T (fits binary64 x) → T (fits binary64 y) → AtMost (a * 2 ^ 1068) x → AtMost (b * 2 ^ 1068) y
    → AtMost (c * 2 ^ 1068) (x ⊕ y)
sum_most a b c x y h l f g u v =
    let r = read (a * 2 ^ 1068) x f u in
    let s = read (b * 2 ^ 1068) y g v in
    let w =
    within_add x y r.p r.n s.p s.n r.is s.is (few a r.p r.n (omega arith) r.most) (few b s.p s.n (omega arith) s.most) in
    most_of (c * 2 ^ 1068) (x ⊕ y) w.p w.n w.is
    (one_sided (c * 2 ^ 1068) (x ⊕ y) w.p w.n w.is
    (up_to (2 ^ 1044) w.p w.n r.p s.p r.n s.n r.most.0 s.most.0 w.upper)
    (from (2 ^ 1044) w.p w.n r.p s.p r.n s.n r.most.1 s.most.1 w.lower))
  where
    up_to : (g p n P Q N M : ℕ) → P ≤ a * (16777216 * g) → Q ≤ b * (16777216 * g) → p + (N + M) ≤ P + Q + n + g → p ≤ n + c * (16777216 * g)
    up_to g p n P Q N M u v k = omega (arith, mul-le-mul_right (16777216 * g) h)

    from : (g p n P Q N M : ℕ) → N ≤ a * (16777216 * g) → M ≤ b * (16777216 * g) → P + Q + n ≤ p + (N + M) + g → n ≤ p + c * (16777216 * g)
    from g p n P Q N M u v k = omega (arith, mul-le-mul_right (16777216 * g) h)

-- at least c / 64, and above 0
abbrev pub From : ℕ → Float → Type 0
From c x = Clear x × AtLeast (c * 2 ^ 1068) x

-- y is 1, and x, of p - n units, at least c + 1 - 64 of 64ths
sum_from : (c p n : ℕ) (x y : Float) → Reads x p n → Reads y (2 ^ 1074) 0 → Sized (2048 * 2 ^ 1074) p n → 0 < c → n + (c + 1) * 2 ^ 1068 ≤ p + 64 * 2 ^ 1068
    → From c (x ⊕ y)
sum_from c p n x y r s l C h =
    let w = within_add x y p n (2 ^ 1074) 0 r s l (lit≤ tt, lit≤ tt) in
    let k = go (2 ^ 1044) w.p w.n (pow_pos 1044) h w.lower in
    (clear_of_read (x ⊕ y) w.p w.n w.is k.0, least_of (c * 2 ^ 1068) (x ⊕ y) w.p w.n w.is k.0 k.1)
  where
    go : (g P N : ℕ) → 0 < g → n + (c + 1) * (16777216 * g) ≤ p + 64 * (16777216 * g) → p + 64 * (16777216 * g) + N ≤ P + (n + 0) + g
        → (N < P) × (c * (16777216 * g) ≤ P)
    go g P N G h l = (let z = mul-le-mul_right (16777216 * g) C in omega arith, omega arith)

-- 1 and a product of at most a
from_one : (a c : ℕ) (x y : Float) → a < 1024 → a + c < 64 → 0 < c → T (fits binary64 x) → AtMost (a * 2 ^ 1068) x → Reads y (2 ^ 1074) 0 → From c (x ⊕ y)
from_one a c x y l h C f u s =
    let r = read (a * 2 ^ 1068) x f u in
    sum_from c r.p r.n x y r.is s (few a r.p r.n l r.most) C (go (2 ^ 1068) r.p r.n r.most.1)
  where
    go : (w p n : ℕ) → n ≤ a * w → n + (c + 1) * w ≤ p + 64 * w
    go w p n k = omega (arith, mul-le-mul_right w h)

-- ---- the sum
pub sum_fits : (r : Float) → T (fits binary64 (polynomial E 13 r))
unfolding horner
sum_fits r = add-fits binary64 (horner E 13 r 12 ⊗ r) (E 0)

module _ (r : Float) (small : AtMost (23 * 2 ^ 1068) r) where
  times_r : (a c : ℕ) (x : Float) → c < 1024 → a * 23 ≤ c * 64 → AtMost (a * 2 ^ 1068) x → AtMost (c * 2 ^ 1068) (x ⊗ r)
  times_r a c x h l u = most_mul (a * 2 ^ 1068) (23 * 2 ^ 1068) (c * 2 ^ 1068) x r (few_short c 1068 h (lit≤ tt)) (go (2 ^ 1068)) u small
    where
      go : (w : ℕ) → a * w * (23 * w) ≤ c * w * (64 * w)
      go w = omega (arith, mul-le-mul_right (w * w) l)

  step : (a b c d : ℕ) (x y : Float) → c < 1024 → d < 1024 → a * 23 ≤ c * 64 → c + b < d → AtMost (a * 2 ^ 1068) x → T (fits binary64 y)
      → AtMost (b * 2 ^ 1068) y → AtMost (d * 2 ^ 1068) (x ⊗ r ⊕ y)
  step a b c d x y C D l h u f v = sum_most c b d (x ⊗ r) y h D (mul-fits binary64 x r) f (times_r a c x C l u) v

  -- down to E[3]
  upper : (n : ℕ) → n ≤ 10 → AtMost (35 * 2 ^ 1068) (horner E 13 r n)
  unfolding horner
  upper zero h = sixth 35 10 (lit< tt) (lit≤ tt)
  upper (suc n) h =
      let e : 12 - n ≡ suc (suc (suc (9 - n))) = omega arith in
      step 35 11 23 35 (horner E 13 r n) (E (12 - n)) (lit< tt) (lit< tt) (lit≤ tt) (lit< tt) (upper n (omega arith)) (E_fits (12 - n))
      (subst (λ (i : ℕ). AtMost (11 * 2 ^ 1068) (E i)) (sym e) (sixth 11 (9 - n) (lit< tt) (lit≤ tt)))

  abbrev p : ℕ → Float
  p n = horner E 13 r n

  upper_2 : AtMost (46 * 2 ^ 1068) (p 11)
  unfolding horner
  upper_2 = step 35 32 13 46 (p 10) (E 2) (lit< tt) (lit< tt) (lit≤ tt) (lit< tt) (upper 10 (lit≤ tt)) (E_fits 2) E_2

  product_2 : AtMost (17 * 2 ^ 1068) (p 11 ⊗ r)
  product_2 = times_r 46 17 (p 11) (lit< tt) (lit≤ tt) upper_2

  upper_1 : AtMost (82 * 2 ^ 1068) (p 12)
  unfolding horner
  upper_1 =
      sum_most 17 64 82 (p 11 ⊗ r) (E 1) (lit< tt) (lit< tt) (mul-fits binary64 (p 11) r) (E_fits 1) product_2
      (most_of (64 * 2 ^ 1068) (E 1) (2 ^ 1074) 0 E_1 (lit≤ tt, lit≤ tt))

  product_1 : AtMost (30 * 2 ^ 1068) (p 12 ⊗ r)
  product_1 = times_r 82 30 (p 12) (lit< tt) (lit≤ tt) upper_1

  pub sum_upper : AtMost (95 * 2 ^ 1068) (polynomial E 13 r)
  unfolding horner
  sum_upper =
      sum_most 30 64 95 (p 12 ⊗ r) (E 0) (lit< tt) (lit< tt) (mul-fits binary64 (p 12) r) (E_fits 0) product_1
      (most_of (64 * 2 ^ 1068) (E 0) (2 ^ 1074) 0 E_0 (lit≤ tt, lit≤ tt))

  pub sum_lower : From 33 (polynomial E 13 r)
  unfolding horner
  sum_lower = from_one 30 33 (p 12 ⊗ r) (E 0) (lit< tt) (lit< tt) (lit< tt) (mul-fits binary64 (p 12) r) product_1 E_0

  lower_1 : From 46 (p 12)
  unfolding horner
  lower_1 = from_one 17 46 (p 11 ⊗ r) (E 1) (lit< tt) (lit< tt) (lit< tt) (mul-fits binary64 (p 11) r) product_2 E_1

  pub sum_above_one : From 8 r → From 68 (polynomial E 13 r)
  unfolding horner
  sum_above_one h =
      let x = p 12 ⊗ r in
      let f = mul-fits binary64 (p 12) r in
      let c = clear_of (30 * 2 ^ 1068) x product_1 (negative_mul (p 12) r lower_1.0 h.0) in
      let l =
      least_product (46 * 2 ^ 1068) (8 * 2 ^ 1068) (5 * 2 ^ 1068) (82 * 2 ^ 1068) (23 * 2 ^ 1068) (p 12) r (few_short 5 1068 (lit< tt) (lit≤ tt)) (lit≤ tt)
      upper_1 small lower_1.1 h.1 in
      let s = read (30 * 2 ^ 1068) x f product_1 in
      let k = reads_least (5 * 2 ^ 1068) x s.p s.n s.is c l in
      sum_from 68 s.p s.n x (E 0) s.is E_0 (few 30 s.p s.n (lit< tt) s.most) (lit< tt)
      (go (2 ^ 1068) s.p s.n k.0 k.1)
    where
      go : (w p n : ℕ) → 5 * w ≤ p → n ≡ 0 → n + (68 + 1) * w ≤ p + 64 * w
      go w p n h l = omega arith
