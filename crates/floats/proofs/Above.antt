-- Floats above 0, infinity included. A value is written in one way, so what tests equal to one of them is that one; 0 over one of them is that 0; and one of
-- them plus a quotient of what is not below 0 is above 0. Assumes nothing.
use mathlib.Core.Path.{◌≡◌, refl, sym, ap, ◌∙◌}
use Prim.Native.Nat.{ℕ, zero, suc, ◌+◌, ◌-◌, ◌*◌, ◌/◌, ◌^◌, ◌<◌, zero-le}
use native.Mathlib.Nat.{mul-pos, mul-le-mul, mul_right_comm, zero-lt-suc, zero-mul}
use native.Mathlib.Omega.{arith}
use mathlib.Core.Bool.{Bool, true, false, ◌&&◌, ◌||◌, cond, true≢false}
use lib.IntN.{ℤ}
use lib.Dec.{T, eqb, lit<, lt→ltb}
use borrow.Author.Tests.{eqb-true}
use lib.Ieee.{Float, nan, inf, fin, binary64, up, down, unlike, round, fits, prec, low, hid, top, size, to_bits, of_bits, add, div, lt, eq}
use lib.Ieee.Back.{round_whole, whole_unique}
use lib.Ieee.Bits.{of_bits-to_bits}
use lib.Ieee.Fits.{up_pos, down_pos, round-fits}
use lib.Ieee.Nearest.{div_same}
use lib.Ieee.Positive.{positive, above}
use lib.Ieee.Scale.{round_same}
use Rattle.floats.specs.Operators.{◌≺◌, ◌≼◌, ◌⊕◌, ◌⊘◌}
use Rattle.floats.proofs.Tests.{holds, and_left, and_right}
use Rattle.floats.proofs.Signs.{O, is_zero, is_infinity, positive_of_lt}
use Rattle.floats.proofs.Order.{not_infinite}
use Rattle.floats.proofs.Whole.{exponent_fine}
use Rattle.floats.proofs.Minimum.{Plain, plain_round}
use Rattle.floats.proofs.Quotients.{divided}
use Rattle.floats.proofs.Bounds.{AtLeast, Clear, power_short, least_add_left, negative_add, above_of}

-- what holds of infinity and of every finite float above 0
pub by_above : (P : Float → Type 0) → P (inf false) → ((m : ℕ) (e : ℤ) → P (fin false (suc m) e)) → (x : Float) → T (above x) → P x
by_above P i f nan p = absurd p
by_above P i f (inf true) p = absurd p
by_above P i f (inf false) p = i
by_above P i f (fin true m e) p = absurd p
by_above P i f (fin false zero e) p = absurd p
by_above P i f (fin false (suc m) e) p = f m e

-- ---- from the tests of a program
pub above_of_lt : (x : Float) → O ≺ x ≡ true → T (above x)
unfolding lt round
above_of_lt nan h = true≢false (sym h)
above_of_lt (inf true) h = true≢false (sym h)
above_of_lt (inf false) h = tt
above_of_lt (fin true m e) h = true≢false (sym h)
above_of_lt (fin false m e) h = positive_of_lt (fin false m e) refl h

-- and not above a finite float
pub positive_of_le : (x y : Float) → O ≺ x ≡ true → T (positive y) → x ≼ y ≡ true → T (positive x)
positive_of_le x y h p =
    by_above (λ x. x ≼ y ≡ true → T (positive x)) (λ k. absurd (not_infinite y p (holds (inf false ≼ y) k))) (λ m e k. lt→ltb 0 (suc m) (zero-lt-suc m))
    x (above_of_lt x h)

-- ---- a value is written in one way
pub written_once : (s : Bool) (m : ℕ) (e : ℤ) (n : ℕ) (d : ℤ) → T (fits binary64 (fin s m e)) → T (fits binary64 (fin s n d))
    → m * up e * down d ≡ n * up d * down e → fin s m e ≡ fin s n d
written_once s m e n d p q h =
    sym (of_bits-to_bits binary64 (fin s m e) p) ∙ ap (of_bits binary64) bits ∙ of_bits-to_bits binary64 (fin s n d) q
  where
    wide : (a b c d k : ℕ) → a * d ≡ c * b → a * k * d ≡ c * k * b
    wide a b c d k h = mul_right_comm a k d ∙ ap (λ (z : ℕ). z * k) h ∙ mul_right_comm c b k

    from : ℕ → ℕ
    from u = cond s (top binary64) 0 + (size u - prec binary64) * hid binary64 + u / 2 ^ (size u - prec binary64)

    bits : to_bits binary64 (fin s m e) ≡ to_bits binary64 (fin s n d)
    bits =
        unfold to_bits in ap from
        (div_same (m * up e * 2 ^ low binary64) (down e) (n * up d * 2 ^ low binary64) (down d) (down_pos e) (down_pos d)
        (wide (m * up e) (down e) (n * up d) (down d) (2 ^ low binary64) h))

-- what tests equal to a float above 0 is that float
pub same_of_eq : (x y : Float) → T (fits binary64 x) → T (fits binary64 y) → O ≺ y ≡ true → eq x y ≡ true → x ≡ y
same_of_eq x y f g q h =
    by_above (λ y. T (fits binary64 y) → eq x y ≡ true → x ≡ y) (λ g h. past x h) (λ n d. at x n d f)
    y (above_of_lt y q) g h
  where
    past : (x : Float) → eq x (inf false) ≡ true → x ≡ inf false
    past x h = is_infinity x (unfold round in unfold div in h)

    signs : (a b : ℕ) → 0 < b → (eqb a b && (false || eqb a 0)) ≡ true → ⊥
    signs a b B h =
        let e = eqb-true a b (and_left (eqb a b) (false || eqb a 0) h) in
        let z = eqb-true a 0 (and_right (eqb a b) (false || eqb a 0) h) in
        omega arith

    at : (x : Float) (n : ℕ) (d : ℤ) → T (fits binary64 x) → T (fits binary64 (fin false (suc n) d)) → eq x (fin false (suc n) d) ≡ true
        → x ≡ fin false (suc n) d
    at nan n d f g h = unfold eq in absurd (true≢false (sym h))
    at (inf s) n d f g h = unfold eq in absurd (true≢false (sym h))
    at (fin true m e) n d f g h =
        unfold eq in absurd (signs (m * up e * down d) (suc n * up d * down e) (mul-pos (mul-pos (zero-lt-suc n) (up_pos d)) (down_pos e)) h)
    at (fin false m e) n d f g h =
        unfold eq in written_once false m e (suc n) d f g
        (eqb-true (m * up e * down d) (suc n * up d * down e) (and_left (eqb (m * up e * down d) (suc n * up d * down e)) true h))

-- ---- 0 over a float above 0 is that 0
kept_sign : (s : Bool) → unlike s false ≡ s
kept_sign true = refl
kept_sign false = refl

-- each of the two zeros is written in one way
zero_once : (s : Bool) (n c : ℕ) (x : ℤ) → 0 < c → n ≡ 0 → T (fits binary64 (fin s 0 x)) → round binary64 s n c ≡ fin s 0 x
zero_once s n c x C z f =
    round_same binary64 s n c 0 1 C (lit< tt) (ap (λ (k : ℕ). k * 1) z ∙ sym (zero-mul c))
    ∙ whole_unique binary64 (round binary64 s 0 1) (fin s 0 x) s 0 (round-fits binary64 s 0 1) f (round_whole binary64 s 0 zero-le) (refl, simp zero-mul)

pub zero_over : (e c : Float) → T (fits binary64 e) → eq e O ≡ true → T (above c) → e ⊘ c ≡ e
zero_over nan c f h p = absurd (is_zero nan h)
zero_over (inf s) c f h p = absurd (is_zero (inf s) h)
zero_over (fin s (suc m) x) c f h p = absurd (is_zero (fin s (suc m) x) h)
zero_over (fin s zero x) c f h p =
    by_above (λ c. fin s 0 x ⊘ c ≡ fin s 0 x) (unfold div in rw (kept_sign s) (unfold round in zero_once s 0 1 x (lit< tt) refl f))
    (λ n d. let D = mul-pos (mul-pos (zero-lt-suc n) (up_pos d)) (down_pos x) in
    divided s 0 x false n d ∙ rw (kept_sign s) (zero_once s (0 * up x * down d) (suc n * up d * down x) x D (simp zero-mul) f))
    c p

-- ---- one more, v + k / c
plain_over : (k c : Float) → Clear k → T (above c) → Plain (k ⊘ c)
plain_over nan c p q = absurd p
plain_over (inf s) c p q = absurd p
plain_over (fin true m e) c p q = absurd (true≢false p)
plain_over (fin false m e) c p q =
    by_above (λ c. Plain (fin false m e ⊘ c)) (unfold div in refl)
    (λ n d. rw (divided false m e false n d) (plain_round (m * up e * down d) (suc n * up d * down e))) c q

-- a float above 0 is a unit or more
unit_least : (m : ℕ) (e : ℤ) → T (fits binary64 (fin false (suc m) e)) → AtLeast 1 (fin false (suc m) e)
unit_least m e f = mul-le-mul (mul-pos (zero-lt-suc m) (up_pos e)) (exponent_fine false m e f)

above_sum : (v q : Float) → T (fits binary64 v) → T (above v) → Plain q → T (above (v ⊕ q))
above_sum v nan f p h = absurd h
above_sum v (inf true) f p h = absurd (true≢false h)
above_sum v (inf false) f p h = by_above (λ v. T (above (v ⊕ inf false))) (unfold add in tt) (λ m e. unfold add in tt) v p
above_sum v (fin true n d) f p h = absurd (true≢false h)
above_sum v (fin false n d) f p h =
    let q = fin false n d in
    by_above (λ v. T (fits binary64 v) → T (above (v ⊕ fin false n d))) (λ f. unfold add in tt)
    (λ m e f. let x = fin false (suc m) e in
    above_of 1 (x ⊕ q) (lit< tt) (least_add_left 1 x q (power_short 0 (lit< tt)) refl refl (unit_least m e f)) (negative_add x q refl refl))
    v p f

pub above_more : (v k c : Float) → T (fits binary64 v) → T (above v) → Clear k → T (above c) → T (above (v ⊕ k ⊘ c))
above_more v k c f p q h = above_sum v (k ⊘ c) f p (plain_over k c q h)
