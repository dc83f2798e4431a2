-- ln of any f64 that is finite and above 0 is at most 2^55. Assumes nothing.
use Rattle.std.specs.Prelude.{if◌then◌else◌}
use mathlib.Core.Path.{◌≡◌, refl}
use Prim.Native.Nat.{ℕ, zero, suc, ◌+◌, ◌-◌, ◌*◌, ◌^◌, ◌≤◌, ◌<◌}
use native.Mathlib.Nat.{le_of_lt, mul-le-mul_right}
use native.Mathlib.Omega.{arith}
use mathlib.Core.Bool.{Bool, true, false, cond}
use lib.IntN.{ℤ, pos, negsuc, nat_abs, ◌+ℤ◌}
use lib.Dec.{T, ltb, lit<, lit≤}
use borrow.Author.Tests.{ltb-true}
use lib.Ieee.{Float, nan, inf, fin, binary64, up, down, fits, of_int, size}
use lib.Ieee.Digits.{size-le}
use lib.Ieee.Positive.{positive}
use Rattle.floats.specs.Operators.{decimal, ◌⊕◌, ◌⊖◌, ◌⊗◌, ◌≺◌}
use Rattle.floats.specs.Wholes.{units_of}
use Rattle.floats.proofs.Tests.{by}
use Rattle.floats.proofs.Minimum.{negative_round}
use Rattle.floats.proofs.Whole.{units_exact, significand_lt, exponent_fine, pow_le_back}
use Rattle.floats.proofs.Bounds.{Bounded, Clear, AtLeast, power_short, clear_of, bounded_mul, bounded_add, bounded_sub}
use Rattle.floats.proofs.Bounds.{bounded_div, least_round, least_add_right, negative_mul, positive_clear, int_bound, exponent_most}
use Rattle.elementary.specs.Tables.{L, horner}
use Rattle.elementary.specs.Exp.{H, J}
use Rattle.elementary.specs.Ln.{mantissa, exponent, ratio, ln_at, ln_from, ln}
use Rattle.elementary.proofs.Mantissas.{taken_apart}
use Rattle.bounds.proofs.Exponential.{horner_bound, reciprocal_bound, H_bound, J_bound, one_bound, two_bound, half_bound, half_clear}

-- ---- the exponent: at most 1074, moved by at most 52 places, and by one more
differ : (a b : ℕ) → nat_abs (cond (ltb a b) (negsuc (b - suc a)) (pos (a - b))) ≤ a + b
differ a b = go (ltb a b) refl
  where
    go : (t : Bool) → ltb a b ≡ t → nat_abs (cond t (negsuc (b - suc a)) (pos (a - b))) ≤ a + b
    go true h = let k = ltb-true a b h in omega arith
    go false h = omega arith

moved : (e : ℤ) (n : ℕ) → nat_abs (e +ℤ pos n) ≤ nat_abs e + n
moved (pos a) n = omega arith
moved (negsuc a) n = let k = differ n (suc a) in omega arith

exponent_size : (m : ℕ) (e : ℤ) → T (fits binary64 (fin false (suc m) e)) → nat_abs e ≤ 1074
exponent_size m (negsuc i) f = pow_le_back (suc i) 1074 (exponent_fine false m (negsuc i) f)
exponent_size m (pos i) f = let l = exponent_most false m i f in omega arith

places_few : (m : ℕ) → m < 2 ^ 53 → size m - 1 ≤ 52
places_few m h = let l = size-le m 53 h in omega arith

-- ---- ln of m × 2^e, m from 0 to 2
abbrev one : Float
one = decimal 1 1

one_clear : Clear one
one_clear = clear_of (2 ^ 1074) one one_bound (negative_round false 1 1)

one_least : AtLeast (2 ^ 1074) one
one_least = least_round (2 ^ 1074) false 1 1 (power_short 1074 (lit< tt)) (lit< tt) (lit≤ tt)

L_bound : (i : ℕ) → Bounded 1074 (L i)
unfolding L
L_bound i = reciprocal_bound (2 * i + 1) (omega arith)

ratio_bound : (m : Float) → Bounded 1075 m → Clear m → Bounded 1076 (ratio m)
ratio_bound m b c =
    bounded_div 1076 1074 1076 (m ⊖ one) (m ⊕ one) (lit< tt) (lit≤ tt) (bounded_sub 1075 1074 1075 m one (lit< tt) (lit≤ tt) (lit≤ tt) b one_bound)
    (least_add_right (2 ^ 1074) m one (power_short 1074 (lit< tt)) c one_clear one_least)

at_bound : (m : Float) (e : ℤ) → Bounded 1075 m → Clear m → nat_abs e ≤ 2048 → Bounded 1129 (ln_at m e)
unfolding ln_at
at_bound m e b c h =
    let z = ratio m in
    let q = horner L 10 (ratio m ⊗ ratio m) 10 in
    let f = of_int binary64 e in
    let zb = ratio_bound m b c in
    let fb = int_bound e h in
    let qb = horner_bound L 10 4 (ratio m ⊗ ratio m) L_bound (bounded_mul 1076 1076 1078 (ratio m) (ratio m) (lit< tt) (lit≤ tt) zb zb) 10 (lit< tt) in
    bounded_add 1085 1128 1128 (f ⊗ H) (decimal 2 1 ⊗ z ⊗ q ⊕ f ⊗ J) (lit< tt) (lit≤ tt) (lit≤ tt)
    (bounded_mul 1085 1074 1085 f H (lit< tt) (lit≤ tt) fb H_bound)
    (bounded_add 1127 1085 1127 (decimal 2 1 ⊗ z ⊗ q) (f ⊗ J) (lit< tt) (lit≤ tt) (lit≤ tt)
    (bounded_mul 1077 1124 1127 (decimal 2 1 ⊗ z) q (lit< tt) (lit≤ tt) (bounded_mul 1075 1076 1077 (decimal 2 1) z (lit< tt) (lit≤ tt) two_bound zb) qb)
    (bounded_mul 1085 1074 1085 f J (lit< tt) (lit≤ tt) fb J_bound))

from_bound : (m : Float) (e : ℤ) → Bounded 1075 m → Clear m → nat_abs e ≤ 2047 → Bounded 1129 (ln_from m e)
unfolding ln_from
from_bound m e b c h =
    let l = bounded_mul 1075 1074 1075 m (decimal 1 2) (lit< tt) (lit≤ tt) b half_bound in
    by (Bounded 1129) (λ (t : Bool). if t then ln_at (m ⊗ decimal 1 2) (e +ℤ pos 1) else ln_at m e) (decimal 14142135623730951 (10 ^ 16) ≺ m)
    (λ t. at_bound (m ⊗ decimal 1 2) (e +ℤ pos 1) l (clear_of (2 ^ 1075) (m ⊗ decimal 1 2) l (negative_mul m (decimal 1 2) c half_clear))
    (let k = moved e 1 in omega arith))
    (λ t. at_bound m e b c (omega arith))

-- ---- ln
units_bound : (s : Bool) (m : ℕ) (e : ℤ) → T (fits binary64 (fin s m e)) → units_of (fin s m e) < 2 * 2 ^ 1074 → Bounded 1075 (fin s m e)
units_bound s m e f h = go (units_of (fin s m e)) (m * up e * 2 ^ 1074) (down e) (2 * 2 ^ 1074) (units_exact s m e f) h
  where
    go : (u x d w : ℕ) → u * d ≡ x → u < w → x ≤ w * d
    go u x d w e h = let k = mul-le-mul_right d (le_of_lt h) in omega arith

mantissa_bound : (x : Float) → T (fits binary64 x) → T (positive x) → units_of x < 2 * 2 ^ 1074 → Bounded 1075 x
mantissa_bound nan f p h = absurd p
mantissa_bound (inf s) f p h = absurd p
mantissa_bound (fin s m e) f p h = units_bound s m e f h

exponent_bound : (m : ℕ) (e : ℤ) → T (fits binary64 (fin false (suc m) e)) → nat_abs (exponent (fin false (suc m) e)) ≤ 2047
unfolding exponent
exponent_bound m e f =
    let a = exponent_size m e f in
    let b = places_few (suc m) (significand_lt false m e f) in
    let c = moved e (size (suc m) - 1) in
    omega arith

pub ln_bound : (x : Float) → T (fits binary64 x) → T (positive x) → Bounded 1129 (ln x)
unfolding ln
ln_bound nan f p = absurd p
ln_bound (inf s) f p = absurd p
ln_bound (fin true m e) f p = absurd p
ln_bound (fin false zero e) f p = absurd p
ln_bound (fin false (suc m) e) f p =
    let v = fin false (suc m) e in
    let t = taken_apart (fin false (suc m) e) f p in
    from_bound (mantissa v) (exponent v) (mantissa_bound (mantissa v) t.held t.sign t.below_2) (positive_clear (mantissa v) t.sign)
    (exponent_bound m e f)
