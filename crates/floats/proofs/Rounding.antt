-- Rounding knows a sign only to keep it: magnitudes of roundings, differences and products. Assumes nothing.
use mathlib.Core.Path.{◌≡◌, refl, sym, ap, ◌∙◌}
use Prim.Native.Nat.{ℕ, zero, suc, ◌+◌, ◌-◌, ◌*◌, ◌/◌, ◌%◌, ◌^◌, ◌≤◌, ◌<◌, compare}
use native.Mathlib.Nat.{mul_comm, zero-mul}
use native.Mathlib.Omega.{arith}
use mathlib.Core.Bool.{Bool, true, false, not, cond, beq}
use lib.IntN.{ℤ}
use lib.Dec.{ltb, eqb, lit<}
use borrow.Author.Tests.{ltb-true, ltb-false}
use lib.Ieee.{Float, nan, inf, fin, Format, binary64, prec, low, emax, up, down, size, nearest, odd, units, unlike, sub, mul, sum, round}
use lib.Ieee.Exact.{HasValue, round_exact}
use Rattle.floats.specs.Operators.{◌⊗◌}
use Rattle.floats.specs.Values.{magnitude}

-- ---- the magnitude of a rounded value
magnitude_odd : (d : ℕ) (s : Bool) (q k l : ℕ) → magnitude (odd d s q k l) ≡ odd d false q k l
unfolding magnitude odd
magnitude_odd d s zero k l = refl
magnitude_odd d s (suc q) k l = refl

magnitude_units : (f : Format) (s : Bool) (q k : ℕ) → magnitude (units f s q k) ≡ units f false q k
unfolding units
magnitude_units f s q k = go (ltb (q * 2 ^ k) (2 ^ (low f + suc (emax f))))
  where
    go : (b : Bool) → magnitude (cond b (odd (suc (prec f)) s q k (low f)) (inf s)) ≡ cond b (odd (suc (prec f)) false q k (low f)) (inf false)
    go true = magnitude_odd (suc (prec f)) s q k (low f)
    go false = unfold magnitude in refl

pub magnitude_round : (f : Format) (s : Bool) (n d : ℕ) → magnitude (round f s n d) ≡ round f false n d
unfolding round
magnitude_round f s n d =
    magnitude_units f s (nearest (n * 2 ^ low f / (d * 2 ^ (size (n * 2 ^ low f / d) - prec f)))
    (compare (n * 2 ^ low f % (d * 2 ^ (size (n * 2 ^ low f / d) - prec f)) * 2) (d * 2 ^ (size (n * 2 ^ low f / d) - prec f))))
    (size (n * 2 ^ low f / d) - prec f)

-- 0 rounds to 0
pub zero_rounds : (s : Bool) (n d : ℕ) → 0 < d → n ≡ 0 → HasValue (round binary64 s n d) s 0 d
zero_rounds s n d D z = rw z (round_exact binary64 s 0 d 0 0 D (lit< tt) (lit< tt) (zero-mul (2 ^ low binary64) ∙ sym (zero-mul d)))

-- ---- ±a / c and ±b / c: how far apart, over c
abbrev pub apart : Bool → ℕ → Bool → ℕ → ℕ
apart s a t b = cond (beq s t) ((a - b) + (b - a)) (a + b)

pub apart_turns : (s : Bool) (a : ℕ) (t : Bool) (b : ℕ) → apart s a t b ≡ apart t b s a
apart_turns true a true b = omega arith
apart_turns true a false b = omega arith
apart_turns false a true b = omega arith
apart_turns false a false b = omega arith

magnitude_difference : (f : Format) (s t : Bool) (a b c : ℕ) → magnitude (cond (ltb a b) (round f s (b - a) c) (round f t (a - b) c))
    ≡ round f false ((a - b) + (b - a)) c
magnitude_difference f s t a b c = go (ltb a b) refl
  where
    more : a < b → b - a ≡ (a - b) + (b - a)
    more h = omega arith

    less : b ≤ a → a - b ≡ (a - b) + (b - a)
    less h = omega arith

    go : (x : Bool) → ltb a b ≡ x → magnitude (cond x (round f s (b - a) c) (round f t (a - b) c)) ≡ round f false ((a - b) + (b - a)) c
    go true e = magnitude_round f s (b - a) c ∙ ap (λ (n : ℕ). round f false n c) (more (ltb-true a b e))
    go false e = magnitude_round f t (a - b) c ∙ ap (λ (n : ℕ). round f false n c) (less (ltb-false a b e))

magnitude_sum : (f : Format) (s : Bool) (a : ℕ) (t : Bool) (b c : ℕ) → magnitude (sum f s a (not t) b c) ≡ round f false (apart s a t b) c
unfolding sum
magnitude_sum f true a true b c = magnitude_difference f false (ltb b a) a b c
magnitude_sum f true a false b c = magnitude_round f true (a + b) c
magnitude_sum f false a true b c = magnitude_round f false (a + b) c
magnitude_sum f false a false b c = magnitude_difference f true false a b c

-- |x - y| is one rounding of the exact distance
pub magnitude_sub : (f : Format) (s : Bool) (m : ℕ) (e : ℤ) (t : Bool) (n : ℕ) (d : ℤ) → magnitude (sub f (fin s m e) (fin t n d))
    ≡ round f false (apart s (m * up e * down d) t (n * up d * down e)) (down e * down d)
unfolding sub
magnitude_sub f s m e t n d = magnitude_sum f s (m * up e * down d) t (n * up d * down e) (down e * down d)

pub magnitude_mul : (f : Format) (m : ℕ) (e : ℤ) (y : Float) → magnitude (mul f (fin false m e) y) ≡ mul f (fin false m e) (magnitude y)
unfolding mul magnitude
magnitude_mul f m e nan = refl
magnitude_mul f m e (inf t) = go (eqb m 0)
  where
    go : (b : Bool) → magnitude (cond b nan (inf (unlike false t))) ≡ cond b nan (inf false)
    go true = refl
    go false = refl
magnitude_mul f m e (fin t n d) = magnitude_round f (unlike false t) (m * up e * (n * up d)) (down e * down d)

-- ---- a product does not depend on the order of its factors
unlike_comm : (s t : Bool) → unlike s t ≡ unlike t s
unlike_comm true true = refl
unlike_comm true false = refl
unlike_comm false true = refl
unlike_comm false false = refl

pub mul_commutes : (x y : Float) → x ⊗ y ≡ y ⊗ x
unfolding mul
mul_commutes nan nan = refl
mul_commutes nan (inf t) = refl
mul_commutes nan (fin t n d) = refl
mul_commutes (inf s) nan = refl
mul_commutes (inf s) (inf t) = ap inf (unlike_comm s t)
mul_commutes (inf s) (fin t n d) = ap (λ (u : Bool). cond (eqb n 0) nan (inf u)) (unlike_comm s t)
mul_commutes (fin s m e) nan = refl
mul_commutes (fin s m e) (inf t) = ap (λ (u : Bool). cond (eqb m 0) nan (inf u)) (unlike_comm s t)
mul_commutes (fin s m e) (fin t n d) =
    rw (mul_comm (m * up e) (n * up d), mul_comm (down e) (down d))
    (ap (λ (u : Bool). round binary64 u (n * up d * (m * up e)) (down d * down e)) (unlike_comm s t))
