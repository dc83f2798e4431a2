-- exp of what is at most q, up to 200, is at most 2^(2q + 2): the sum over the table is below 2 and k at most 2q + 1. Assumes nothing.
use mathlib.Core.Path.{◌≡◌, sym, subst}
use Prim.Native.Nat.{ℕ, zero, suc, ◌+◌, ◌-◌, ◌*◌, ◌/◌, ◌^◌, ◌≤◌, ◌<◌, zero-le}
use native.Mathlib.Nat.{le_trans, le_of_eq, mul-le-mul_left, mul-le-mul_right, le_of_mul-le-mul_right, div-le_of_le-mul}
use native.Mathlib.Omega.{arith}
use mathlib.Core.Bool.{true, false, true≢false}
use lib.IntN.{pos, neg_ℤ}
use lib.Dec.{T, lit<, lit≤}
use lib.Pow.{pow_pos}
use borrow.Author.Tests.{ltb-true}
use lib.Ieee.{Float, nan, inf, fin, binary64, up, down, lt, round, fits}
use Rattle.floats.specs.Operators.{decimal, ◌⊕◌, ◌⊗◌, ◌≺◌}
use Rattle.floats.proofs.Tests.{split}
use Rattle.floats.proofs.Short.{AtMost}
use Rattle.floats.proofs.Minimum.{negative_round}
use Rattle.floats.proofs.Bounds.{Bounded, Upto, Clear, few_short, bounded_more, round_bound, clear_of, bounded_mul, bounded_add}
use Rattle.floats.proofs.Bounds.{upto_number, upto_mul, upto_add}
use Rattle.elementary.specs.Tables.{horner}
use Rattle.elementary.specs.Exp.{H, J, overflow_limit, underflow_limit, floor, scaled, sum_at, two_to, exp}
use Rattle.elementary.proofs.Powers.{power_bound, fraction_power}
use Rattle.elementary.proofs.Scaled.{log2e}
use Rattle.elementary.proofs.Remainder.{J_small}
use Rattle.elementary.proofs.Positive.{at_k_most}
use Rattle.elementary.proofs.Laws.{exp_below, exp_made}

-- ---- a sum over a table whose entries are at most 1, of what is at most 2^g
pub horner_bound : (table : ℕ → Float) (degree g : ℕ) (x : Float) → ((i : ℕ) → Bounded 1074 (table i)) → Bounded (1074 + g) x
    → (n : ℕ) → n * (g + 1) < 1000 → Bounded (1074 + n * (g + 1)) (horner table degree x n)
unfolding horner
horner_bound table degree g x t b zero h = bounded_more 1074 (1074 + 0 * (g + 1)) (table degree) (omega arith) (t degree)
horner_bound table degree g x t b (suc n) h =
    bounded_more (1074 + n * (g + 1) + g + 1) (1074 + suc n * (g + 1)) (horner table degree x n ⊗ x ⊕ table (degree - 1 - n)) (omega arith)
    (bounded_add (1074 + n * (g + 1) + g) 1074 (1074 + n * (g + 1) + g) (horner table degree x n ⊗ x) (table (degree - 1 - n)) (omega arith) (omega arith)
    (omega arith)
    (bounded_mul (1074 + n * (g + 1)) (1074 + g) (1074 + n * (g + 1) + g) (horner table degree x n) x (omega arith) (omega arith)
    (horner_bound table degree g x t b n (omega arith)) b)
    (t (degree - 1 - n)))

pub reciprocal_bound : (d : ℕ) → 0 < d → Bounded 1074 (decimal 1 d)
reciprocal_bound d D = round_bound 1074 false 1 d (lit< tt) D (one (2 ^ 1074) d D)
  where
    one : (k d : ℕ) → 0 < d → 1 * k ≤ k * d
    one k d D = omega (arith, mul-le-mul_left {m = 1} {n = d} k D)

-- ---- the constants
pub one_bound : Bounded 1074 (decimal 1 1)
one_bound = round_bound 1074 false 1 1 (lit< tt) (lit< tt) (lit≤ tt)

pub two_bound : Bounded 1075 (decimal 2 1)
two_bound = round_bound 1075 false 2 1 (lit< tt) (lit< tt) (lit≤ tt)

pub H_bound : Bounded 1074 H
H_bound = round_bound 1074 false 693147180369123816490 (10 ^ 21) (lit< tt) (lit< tt) (lit≤ tt)

pub J_bound : Bounded 1074 J
J_bound = bounded_more 1042 1074 J (lit≤ tt) J_small

log2e_bound : Bounded 1075 log2e
log2e_bound = round_bound 1075 false 14426950408889634 (10 ^ 16) (lit< tt) (lit< tt) (lit≤ tt)

log2e_clear : Clear log2e
log2e_clear = clear_of (2 ^ 1075) log2e log2e_bound (negative_round false 14426950408889634 (10 ^ 16))

pub half_bound : Bounded 1074 (decimal 1 2)
half_bound = round_bound 1074 false 1 2 (lit< tt) (lit< tt) (lit≤ tt)

pub half_clear : Clear (decimal 1 2)
half_clear = clear_of (2 ^ 1074) (decimal 1 2) half_bound (negative_round false 1 2)

-- ---- v × 1.4426950408889634 + 0.5, and 2 to its floor
scaled_upto : (q j : ℕ) (v : Float) → q ≤ 200 → j ≤ 1500 → Upto (q * 2 ^ 1074) v → Bounded j v → Upto ((2 * q + 1) * 2 ^ 1074) (scaled v)
scaled_upto q j v h l u b =
    let m = bounded_mul j 1075 (j + 1) v log2e (omega arith) (omega arith) b log2e_bound in
    let n : Bounded (j + 1) (v ⊗ log2e) = m in
    let o : Bounded 1502 (v ⊗ log2e ⊕ decimal 1 2) =
    bounded_add (j + 1) 1074 1501 (v ⊗ log2e) (decimal 1 2) (lit< tt) (omega arith) (lit≤ tt) n half_bound in
    upto_add (2 * q * 2 ^ 1074) (2 ^ 1074) ((2 * q + 1) * 2 ^ 1074) (2 ^ 1502) (v ⊗ log2e) (decimal 1 2)
    (few_short (2 * q + 1) 1074 (omega arith) (lit≤ tt)) (le_of_eq (one_more q (2 ^ 1074)))
    (upto_mul (q * 2 ^ 1074) (2 ^ 1075) (2 * q * 2 ^ 1074) (2 ^ (j + 1)) v log2e (few_short (2 * q) 1074 (omega arith) (lit≤ tt))
    (le_of_eq (twice q (2 ^ 1074))) u log2e_clear log2e_bound n)
    half_clear half_bound o
  where
    one_more : (q k : ℕ) → 2 * q * k + k ≡ (2 * q + 1) * k
    one_more q k = omega arith

    twice : (q k : ℕ) → q * k * (2 * k) ≡ 2 * q * k * k
    twice q k = omega arith

floor_power : (u : ℕ) (t : Float) → Upto (u * 2 ^ 1074) t → Bounded (u + 1074) (two_to (floor t))
unfolding floor
floor_power u nan h = absurd h
floor_power u (inf s) h = absurd h
floor_power u (fin false m e) h =
    power_bound u (m * up e / down e) (div-le_of_le-mul (down e) {m = m * up e} {n = u} (bare (m * up e) (2 ^ 1074) u (down e) (pow_pos 1074) h))
  where
    bare : (a k u d : ℕ) → 0 < k → a * k ≤ u * k * d → a ≤ d * u
    bare a k u d K h = le_of_mul-le-mul_right {k = k} (let z : a * k ≤ d * u * k = omega arith in z) K
floor_power u (fin true m e) h = go ((m * up e + (down e - 1)) / down e)
  where
    go : (n : ℕ) → Bounded (u + 1074) (two_to (neg_ℤ (pos n)))
    go zero = power_bound u 0 zero-le
    go (suc n) = fraction_power u n

-- ---- exp
not_over : (q : ℕ) (v : Float) → q ≤ 200 → Upto (q * 2 ^ 1074) v → overflow_limit ≺ v ≡ true → ⊥
unfolding lt round
not_over q nan h u l = u
not_over q (inf s) h u l = u
not_over q (fin true m e) h u l = true≢false (sym l)
not_over q (fin false m e) h u l = go (m * up e) (2 ^ 1074) (down e) (pow_pos 1074) u (ltb-true (709 * 1 * down e) (m * up e * 1) l)
  where
    go : (a k d : ℕ) → 0 < k → a * k ≤ q * k * d → 709 * 1 * d < a * 1 → ⊥
    go a k d K u l =
        let r : a ≤ q * d = le_of_mul-le-mul_right {k = k} (let z : a * k ≤ q * d * k = omega arith in z) K in
        let s = mul-le-mul_right d h in
        omega arith

-- 95 / 64 is below 2
below_two : (x : Float) → AtMost (95 * 2 ^ 1068) x → Bounded 1075 x
below_two nan h = h
below_two (inf s) h = h
below_two (fin s m e) h = le_trans h (mul-le-mul_right (down e) (lit≤ tt))

pub exp_bound : (q j : ℕ) (v : Float) → T (fits binary64 v) → q ≤ 200 → j ≤ 1500 → Upto (q * 2 ^ 1074) v → Bounded j v → Bounded (1076 + 2 * q) (exp v)
exp_bound q j v f h l u b = split (v ≺ underflow_limit) low (λ w. split (overflow_limit ≺ v) (λ o. absurd (not_over q v h u o)) (between w))
  where
    nothing : (k r : ℕ) → 0 * k ≤ r * 1
    nothing k r = omega arith

    low : v ≺ underflow_limit ≡ true → Bounded (1076 + 2 * q) (exp v)
    low w =
        subst (Bounded (1076 + 2 * q)) (sym (exp_below v w))
        (round_bound (1076 + 2 * q) false 0 1 (omega arith) (lit< tt) (nothing (2 ^ 1074) (2 ^ (1076 + 2 * q))))

    between : v ≺ underflow_limit ≡ false → overflow_limit ≺ v ≡ false → Bounded (1076 + 2 * q) (exp v)
    between w o =
        let k = floor (scaled v) in
        let number = upto_number (q * 2 ^ 1074) v u in
        subst (Bounded (1076 + 2 * q)) (sym (exp_made v f number o w))
        (bounded_mul 1075 (2 * q + 1 + 1074) (1076 + 2 * q) (sum_at v k) (two_to k) (omega arith) (omega arith)
        (below_two (sum_at v k) (at_k_most v f number o w))
        (floor_power (2 * q + 1) (scaled v) (scaled_upto q j v h l u b)))
