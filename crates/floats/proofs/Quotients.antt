-- Brent's test of an interpolation, 2 p < min(a q - |i q|, |e| |q|): where it passes, the step p / q has the sign of a and is at most half of it, whatever
-- p, q and e are, not-a-numbers and infinities included. Assumes nothing.
use mathlib.Core.Path.{◌≡◌, refl, sym, ap, ◌∙◌, subst}
use Prim.Native.Nat.{ℕ, zero, suc, ◌+◌, ◌-◌, ◌*◌, ◌^◌, ◌≤◌, ◌<◌, zero-le}
use native.Mathlib.Nat.{le_of_eq, le_of_lt, lt_of_not-le, zero-mul, mul-pos, zero-lt-suc, mul-le-mul_right, le_of_mul-le-mul_right, lt_irrefl, mul-zero}
use native.Mathlib.Decide.{dec_le}
use native.Mathlib.Omega.{arith}
use mathlib.Core.Bool.{Bool, true, false, not, ◌&&◌, cond, beq, true≢false}
use lib.IntN.{ℤ, pos}
use lib.Dec.{T, ltb, lit<, eqb-suc-zero}
use lib.Pow.{pow_pos}
use lib.Ieee.{Float, nan, inf, fin, binary64, up, down, unlike, lt, sub, mul, div, sum, round, is_nan, fits}
use lib.Ieee.Fits.{up_pos, down_pos, mul-fits}
use lib.Ieee.Order.{round_mono}
use Rattle.floats.specs.Operators.{decimal, ◌≺◌, ◌≼◌, ◌⊖◌, ◌⊗◌, ◌⊘◌}
use Rattle.floats.specs.Values.{magnitude, minimum, negative, finite}
use Rattle.floats.proofs.Tests.{by, clash}
use Rattle.floats.proofs.Signs.{O, below_fin, not_above_round}
use Rattle.floats.proofs.Rounding.{magnitude_round}
use Rattle.floats.proofs.Short.{Short, short_of, AtMost, most_finite, most_round, own}
use Rattle.floats.proofs.Minimum.{Plain, NotBelow, negative_round, round_number, plain_round, scale_not_below, product_clear, zero_at_most, lt_minimum}
use Rattle.floats.proofs.Minimum.{infinity_below, less_not_above}

clear_sign : (u : Bool) → unlike false u ≡ u
clear_sign true = refl
clear_sign false = refl

-- ---- finite, at most w units in magnitude, and of the sign t unless it is a zero
abbrev pub Toward : Bool → ℕ → Float → Type 0
Toward t w nan = ⊥
Toward t w (inf s) = ⊥
Toward t w (fin s m e) = (m * up e * 2 ^ 1074 ≤ w * down e) × (0 < m → s ≡ t)

pub toward_of : (t : Bool) (w : ℕ) (x : Float) → AtMost w x → negative x ≡ t → Toward t w x
unfolding negative
toward_of t w nan h k = h
toward_of t w (inf s) h k = h
toward_of t w (fin s m e) h k = (h, λ p. k)

toward_zero : (t : Bool) (w : ℕ) (x : Float) → AtMost 0 x → Toward t w x
toward_zero t w nan h = h
toward_zero t w (inf s) h = h
toward_zero t w (fin s zero e) h = (nothing (up e) (2 ^ 1074) (w * down e), λ p. absurd (lt_irrefl 0 p))
  where
    nothing : (a b c : ℕ) → 0 * a * b ≤ c
    nothing a b c = simp zero-mul zero-le
toward_zero t w (fin s (suc m) e) h = absurd (some (suc m * up e * 2 ^ 1074) (down e) (mul-pos (mul-pos (zero-lt-suc m) (up_pos e)) (pow_pos 1074)) h)
  where
    some : (a d : ℕ) → 0 < a → a ≤ 0 * d → ⊥
    some a d p h = let z = zero-mul d in omega arith

pub negative_scale : (i : ℕ) (g : ℤ) (w : ℕ) (x : Float) → AtMost w x → negative (fin false i g ⊗ x) ≡ negative x
unfolding mul
negative_scale i g w nan h = absurd h
negative_scale i g w (inf s) h = absurd h
negative_scale i g w (fin s m e) h = unfold negative in negative_round (unlike false s) (i * up g * (m * up e)) (down g * down e) ∙ clear_sign s

-- ---- a difference of a rounding and a finite value
sum_number : (s : Bool) (a : ℕ) (t : Bool) (b c : ℕ) → is_nan (sum binary64 s a t b c) ≡ false
unfolding sum
sum_number s a t b c =
    by (λ (x : Float). is_nan x ≡ false)
    (λ (x : Bool). cond x (round binary64 s (a + b) c) (cond (ltb a b) (round binary64 t (b - a) c) (round binary64 (s && ltb b a) (a - b) c))) (beq s t)
    (λ h. round_number s (a + b) c)
    (λ h. by (λ (x : Float). is_nan x ≡ false) (λ (x : Bool). cond x (round binary64 t (b - a) c) (round binary64 (s && ltb b a) (a - b) c)) (ltb a b)
    (λ w. round_number t (b - a) c) (λ w. round_number (s && ltb b a) (a - b) c))

less_number : (x w : Float) → is_nan x ≡ false → finite w ≡ true → is_nan (x ⊖ w) ≡ false
unfolding sub
less_number nan w h f = unfold is_nan in absurd (true≢false h)
less_number (inf s) nan h f = absurd (true≢false (sym f))
less_number (inf s) (inf t) h f = absurd (true≢false (sym f))
less_number (inf s) (fin t n d) h f = unfold is_nan in refl
less_number (fin s m e) nan h f = absurd (true≢false (sym f))
less_number (fin s m e) (inf t) h f = absurd (true≢false (sym f))
less_number (fin s m e) (fin t n d) h f = sum_number s (m * up e * down d) (not t) (n * up d * down e) (down e * down d)

less_below : (x w : Float) → negative x ≡ true → Plain w → finite w ≡ true → O ≺ x ⊖ w ≡ false
unfolding sub negative
less_below nan w h p f = absurd (true≢false (sym h))
less_below (inf s) nan h p f = absurd p
less_below (inf s) (inf t) h p f = absurd (true≢false (sym f))
less_below (inf false) (fin t n d) h p f = absurd (true≢false (sym h))
less_below (inf true) (fin t n d) h p f = unfold lt in unfold round in refl
less_below (fin s m e) nan h p f = absurd p
less_below (fin s m e) (inf t) h p f = absurd (true≢false (sym f))
less_below (fin false m e) (fin t n d) h p f = absurd (true≢false (sym h))
less_below (fin true m e) (fin true n d) h p f = absurd (true≢false p)
less_below (fin true m e) (fin false n d) h p f = unfold sum in not_above_round (m * up e * down d + n * up d * down e) (down e * down d)

-- ---- the numbers: p / dp, q / dq, a / da, and 2 p < a q exactly
half_of : (P dp Q dq A da k w : ℕ) → 0 < da → A * k ≤ 2 * w * da → 2 * P * (da * dq) < A * Q * dp → P * dq * k ≤ w * (Q * dp)
half_of P dp Q dq A da k w DA h l =
    le_of_mul-le-mul_right {k = 2 * da}
    (let x = mul-le-mul_right (Q * dp) h in
    let y = mul-le-mul_right k (le_of_lt l) in
    let z : P * dq * k * (2 * da) ≤ w * (Q * dp) * (2 * da) = omega arith in z)
    (mul-pos (lit< tt) DA)

same_sign : (t u : Bool) → unlike t u ≡ false → u ≡ t
same_sign true true h = refl
same_sign true false h = absurd (true≢false h)
same_sign false true h = absurd (true≢false h)
same_sign false false h = refl

pub not_below_of : (s : Bool) (m : ℕ) (e : ℤ) → fin s m e ≺ O ≡ false → NotBelow (fin s m e)
not_below_of false m e h = tt
not_below_of true zero e h = zero-mul (up e)
not_below_of true (suc m) e h = clash (below_fin (suc m) e (zero-lt-suc m)) h

abbrev two : Float
two = fin false 1 (pos 1)

two_is : two ≡ decimal 2 1
two_is = unfold round in refl

twice_infinity : two ⊗ inf false ≡ inf false
unfolding mul
twice_infinity = refl

pub divided : (s : Bool) (m : ℕ) (e : ℤ) (u : Bool) (n : ℕ) (d : ℤ)
    → fin s m e ⊘ fin u (suc n) d ≡ round binary64 (unlike s u) (m * up e * down d) (suc n * up d * down e)
unfolding div
divided s m e u n d = rw (eqb-suc-zero n)

-- the quotient, once 2 p < a q is known exactly
quotient : (t : Bool) (a : ℕ) (g : ℤ) (w : ℕ) (s : Bool) (m : ℕ) (e : ℤ) (u : Bool) (n : ℕ) (d : ℤ) → Short w → a * up g * 2 ^ 1074 ≤ 2 * w * down g
    → NotBelow (fin s m e) → u ≡ t
    → 2 * (m * up e) * (down g * down d) < a * up g * (n * up d) * down e → Toward t w (fin s m e ⊘ fin u n d)
quotient t a g w s m e u zero d S b h k l = absurd (none (2 * (m * up e) * (down g * down d)) (a * up g) (up d) (down e) l)
  where
    none : (x y z v : ℕ) → x < y * (0 * z) * v → ⊥
    none x y z v h = let o : y * (0 * z) * v ≡ 0 = simp (zero-mul, mul-zero) in omega arith
quotient t a g w s m e u (suc n) d S b h k l =
    let N = m * up e * down d in
    let D = suc n * up d * down e in
    let P = mul-pos (mul-pos (zero-lt-suc n) (up_pos d)) (down_pos e) in
    subst (Toward t w) (sym (divided s m e u n d))
    (go s h (most_round w (unlike s u) N D S P (half_of (m * up e) (down e) (suc n * up d) (down d) (a * up g) (down g) (2 ^ 1074) w (down_pos g) b l)))
  where
    vanish : (x y k z : ℕ) → x ≡ 0 → x * y * k ≡ 0 * z
    vanish x y k z h = rw h (simp zero-mul)

    go : (s : Bool) → NotBelow (fin s m e) → AtMost w (round binary64 (unlike s u) (m * up e * down d) (suc n * up d * down e))
        → Toward t w (round binary64 (unlike s u) (m * up e * down d) (suc n * up d * down e))
    go false h q = toward_of t w (round binary64 (unlike false u) (m * up e * down d) (suc n * up d * down e)) q
        (negative_round (unlike false u) (m * up e * down d) (suc n * up d * down e) ∙ clear_sign u ∙ k)
    go true h q =
        toward_zero t w (round binary64 (unlike true u) (m * up e * down d) (suc n * up d * down e))
        (most_round 0 (unlike true u) (m * up e * down d) (suc n * up d * down e) (short_of 0 0 (lit< tt) zero-le)
        (mul-pos (mul-pos (zero-lt-suc n) (up_pos d)) (down_pos e))
        (le_of_eq (vanish (m * up e) (down d) (2 ^ 1074) (suc n * up d * down e) h)))

nan_above : (x : Float) → x ≺ nan ≡ false
nan_above nan = unfold lt in refl
nan_above (inf s) = unfold lt in refl
nan_above (fin s m e) = unfold lt in refl

-- ---- the test
module _ (t : Bool) (a : ℕ) (g : ℤ) (i : ℕ) (h : ℤ) (w : ℕ) (S : Short w) (b : a * up g * 2 ^ 1074 ≤ 2 * w * down g) (l : i * up h ≤ down h) where
  -- |i q| is finite, i being at most 1
  product_most : (u : Bool) (n : ℕ) (d : ℤ) → T (fits binary64 (fin u n d)) → finite (magnitude (fin false i h ⊗ fin u n d)) ≡ true
  unfolding mul
  product_most u n d f =
      let v = own u n d f in
      let x = round binary64 false (i * up h * (n * up d)) (down h * down d) in
      subst (λ (x : Float). finite x ≡ true) (sym (magnitude_round binary64 (unlike false u) (i * up h * (n * up d)) (down h * down d)))
      (most_finite v.count x (most_round v.count false (i * up h * (n * up d)) (down h * down d) v.short (mul-pos (down_pos h) (down_pos d))
      (less (i * up h) (down h) (n * up d) (down d) (2 ^ 1074) v.count l v.exact)))
    where
      less : (x dx y dy k c : ℕ) → x ≤ dx → y * k ≡ c * dy → x * y * k ≤ c * (dx * dy)
      less x dx y dy k c h e = let p = mul-le-mul_right (c * dy) h in let q = ap (λ (z : ℕ). x * z) e in omega arith

  product_plain : (u : Bool) (n : ℕ) (d : ℤ) → Plain (magnitude (fin false i h ⊗ fin u n d))
  unfolding mul
  product_plain u n d = subst Plain (sym (magnitude_round binary64 (unlike false u) (i * up h * (n * up d)) (down h * down d)))
      (plain_round (i * up h * (n * up d)) (down h * down d))

  product_is : (u : Bool) (n : ℕ) (d : ℤ) (x : Bool) → unlike t u ≡ x → fin t a g ⊗ fin u n d ≡ round binary64 x (a * up g * (n * up d)) (down g * down d)
  unfolding mul
  product_is u n d x k = ap (λ (z : Bool). round binary64 z (a * up g * (n * up d)) (down g * down d)) k

  twice_at_least : (s : Bool) (m : ℕ) (e : ℤ) (n : ℕ) (d : ℤ) → a * up g * (n * up d) * down e ≤ 2 * (m * up e) * (down g * down d)
      → T (round binary64 false (a * up g * (n * up d)) (down g * down d) ≼ magnitude (two ⊗ fin s m e))
  unfolding mul
  twice_at_least s m e n d h =
      rw (magnitude_round binary64 (unlike false s) (1 * up (pos 1) * (m * up e)) (1 * down e))
      (round_mono binary64 (a * up g * (n * up d)) (down g * down d) (1 * up (pos 1) * (m * up e)) (1 * down e) (mul-pos (down_pos g) (down_pos d))
      (mul-pos (lit< tt) (down_pos e))
      (same (a * up g * (n * up d)) (down e) (m * up e) (down g * down d) h))
    where
      same : (x y z v : ℕ) → x * y ≤ 2 * z * v → x * (1 * y) ≤ 1 * 2 * z * v
      same x y z v h = omega arith

  finite_toward : (s : Bool) (m : ℕ) (e : ℤ) (u : Bool) (n : ℕ) (d : ℤ) (c : Float) → T (fits binary64 (fin u n d)) → fin s m e ≺ O ≡ false
      → two ⊗ fin s m e ≺ minimum (fin t a g ⊗ fin u n d ⊖ magnitude (fin false i h ⊗ fin u n d)) (magnitude c ⊗ magnitude (fin u n d)) ≡ true → Toward t w
      (fin s m e ⊘ fin u n d)
  finite_toward s m e u n d c f k r = signs (unlike t u) refl
    where
      below : (v : Float) → Plain v → T (v ≼ magnitude (two ⊗ fin s m e)) → v ≺ fin t a g ⊗ fin u n d ⊖ magnitude (fin false i h ⊗ fin u n d) ≡ true
      below v p q =
          let x = magnitude (fin false i h ⊗ fin u n d) in
          lt_minimum (two ⊗ fin s m e) (fin t a g ⊗ fin u n d ⊖ x) (magnitude c ⊗ magnitude (fin u n d)) v
          (scale_not_below 1 (pos 1) s m e (not_below_of s m e k))
          (less_number (fin t a g ⊗ fin u n d) x
          (subst (λ (z : Float). is_nan z ≡ false) (sym (product_is u n d (unlike t u) refl)) (round_number (unlike t u) _ _)) (product_most u n d f))
          (product_clear c (fin u n d)) r p q

      signs : (x : Bool) → unlike t u ≡ x → Toward t w (fin s m e ⊘ fin u n d)
      signs true z =
          clash (below O (unfold round in refl) (zero_at_most (two ⊗ fin s m e) (scale_not_below 1 (pos 1) s m e (not_below_of s m e k))))
          (less_below (fin t a g ⊗ fin u n d) (magnitude (fin false i h ⊗ fin u n d))
          (subst (λ (v : Float). negative v ≡ true) (sym (product_is u n d true z)) (negative_round true _ _)) (product_plain u n d) (product_most u n d f))
      signs false z = exact (dec_le (a * up g * (n * up d) * down e) (2 * (m * up e) * (down g * down d)))
        where
          exact : Dec (a * up g * (n * up d) * down e ≤ 2 * (m * up e) * (down g * down d)) → Toward t w (fin s m e ⊘ fin u n d)
          exact (yes y) =
              let X = fin t a g ⊗ fin u n d in
              let is = product_is u n d false z in
              let plain : Plain X = subst Plain (sym is) (plain_round _ _) in
              absurd (less_not_above X (magnitude (fin false i h ⊗ fin u n d)) (mul-fits binary64 (fin t a g) (fin u n d)) plain (product_plain u n d)
              (below X plain (subst (λ (v : Float). T (v ≼ magnitude (two ⊗ fin s m e))) (sym is) (twice_at_least s m e n d y))))
          exact (no o) = quotient t a g w s m e u n d S b (not_below_of s m e k) (same_sign t u z) (lt_of_not-le o)

  no_number : (c : Float) → minimum (fin t a g ⊗ nan ⊖ magnitude (fin false i h ⊗ nan)) (magnitude c ⊗ magnitude nan) ≡ nan
  no_number nan = unfold minimum in unfold mul in unfold sub in unfold magnitude in unfold is_nan in refl
  no_number (inf s) = unfold minimum in unfold mul in unfold sub in unfold magnitude in unfold is_nan in refl
  no_number (fin s m e) = unfold minimum in unfold mul in unfold sub in unfold magnitude in unfold is_nan in refl

  pub quotient_toward : (p q c : Float) → T (fits binary64 q) → p ≺ O ≡ false
      → decimal 2 1 ⊗ p ≺ minimum (fin t a g ⊗ q ⊖ magnitude (fin false i h ⊗ q)) (magnitude c ⊗ magnitude q) ≡ true → Toward t w (p ⊘ q)
  quotient_toward p q c f k r = go p q f k
      (subst (λ (z : Float). z ⊗ p ≺ minimum (fin t a g ⊗ q ⊖ magnitude (fin false i h ⊗ q)) (magnitude c ⊗ magnitude q) ≡ true) (sym two_is) r)
    where
      go : (p q : Float) → T (fits binary64 q) → p ≺ O ≡ false
          → two ⊗ p ≺ minimum (fin t a g ⊗ q ⊖ magnitude (fin false i h ⊗ q)) (magnitude c ⊗ magnitude q) ≡ true → Toward t w (p ⊘ q)
      go nan q f k r = unfold mul in unfold lt in absurd (true≢false (sym r))
      go (inf true) q f k r = unfold lt in unfold round in absurd (true≢false k)
      go (inf false) q f k r = clash r
          (ap (λ (x : Float). x ≺ minimum (fin t a g ⊗ q ⊖ magnitude (fin false i h ⊗ q)) (magnitude c ⊗ magnitude q)) twice_infinity ∙ infinity_below
          (minimum (fin t a g ⊗ q ⊖ magnitude (fin false i h ⊗ q)) (magnitude c ⊗ magnitude q)))
      go (fin s m e) nan f k r = clash r (ap (λ (x : Float). two ⊗ fin s m e ≺ x) (no_number c) ∙ nan_above (two ⊗ fin s m e))
      go (fin s m e) (inf u) f k r = unfold div in (nothing (2 ^ 1074) w, λ z. absurd (lt_irrefl 0 z))
        where
          nothing : (k w : ℕ) → 0 * 1 * k ≤ w * 1
          nothing k w = simp zero-mul zero-le
      go (fin s m e) (fin u n d) f k r = finite_toward s m e u n d c f k r
