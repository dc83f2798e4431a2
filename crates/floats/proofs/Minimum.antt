-- What is below a minimum, and below a difference: the tests of values that are not below 0, where not-a-numbers and infinities may stand. Assumes nothing.
use Rattle.std.specs.Prelude.{if◌then◌else◌}
use mathlib.Core.Path.{◌≡◌, refl, sym, ap, ◌∙◌, subst}
use Prim.Native.Nat.{ℕ, zero, suc, ◌+◌, ◌-◌, ◌*◌, ◌^◌, ◌≤◌, ◌<◌, zero-le}
use native.Mathlib.Nat.{le_trans, le_of_eq, lt_of_not-le, not-le_of_lt, zero-mul, mul-pos, zero-lt-suc, mul_right_comm, mul-le-mul_right}
use native.Mathlib.Nat.{mul-lt-mul_of_pos_right, mul_assoc, mul-zero, sub-le}
use native.Mathlib.Omega.{arith}
use mathlib.Core.Bool.{Bool, true, false, ◌||◌, cond, true≢false}
use lib.IntN.{ℤ}
use lib.Dec.{T, ltb, eqb, lit<}
use lib.Pow.{pow_pos}
use borrow.Author.Tests.{ltb-true, lt-ltb}
use lib.Ieee.{Float, nan, inf, fin, binary64, up, down, lt, le, eq, sub, mul, round, units, odd, is_nan, low, prec, emax, fits}
use lib.Ieee.Fits.{down_pos, round_is}
use lib.Ieee.Exact.{HasValue}
use lib.Ieee.Order.{le_of_values}
use lib.Ieee.Positive.{first_pos, through}
use Rattle.floats.specs.Operators.{◌≺◌, ◌≼◌, ◌⊖◌, ◌⊗◌}
use Rattle.floats.specs.Values.{magnitude, minimum, negative}
use Rattle.floats.proofs.Rounding.{zero_rounds}
use Rattle.floats.proofs.Tests.{by, clash, or_le}
use Rattle.floats.proofs.Signs.{O, not_above_round}
use Rattle.floats.proofs.Short.{AtMost, most_round, own}

-- ---- of clear sign; and not below 0, that is of clear sign or a zero
abbrev pub Plain : Float → Type 0
Plain nan = ⊥
Plain (inf s) = s ≡ false
Plain (fin s m e) = s ≡ false

abbrev pub NotBelow : Float → Type 0
NotBelow nan = ⊥
NotBelow (inf s) = s ≡ false
NotBelow (fin false m e) = Unit
NotBelow (fin true m e) = m * up e ≡ 0

plain_of : (x : Float) → is_nan x ≡ false → negative x ≡ false → Plain x
unfolding is_nan negative
plain_of nan h k = absurd (true≢false h)
plain_of (inf s) h k = k
plain_of (fin s m e) h k = k

plain_magnitude : (x : Float) → Plain x → magnitude x ≡ x
unfolding magnitude
plain_magnitude nan p = absurd p
plain_magnitude (inf s) p = ap inf (sym p)
plain_magnitude (fin s m e) p = ap (λ (t : Bool). fin t m e) (sym p)

not_below_plain : (x : Float) → Plain x → NotBelow x
not_below_plain nan p = p
not_below_plain (inf s) p = p
not_below_plain (fin false m e) p = tt
not_below_plain (fin true m e) p = absurd (true≢false p)

gone : (a c : ℕ) → 0 < c → a * c ≡ 0 → a ≡ 0
gone zero c C h = refl
gone (suc a) c C h = absurd (let q : 0 < suc a * c = mul-pos (zero-lt-suc a) C in omega arith)

-- ---- a rounding has its own sign
signed_odd : (d : ℕ) (s : Bool) (q k l : ℕ) → (negative (odd d s q k l) ≡ s) × (is_nan (odd d s q k l) ≡ false)
unfolding odd negative is_nan
signed_odd d s zero k l = (refl, refl)
signed_odd d s (suc q) k l = (refl, refl)

signed_units : (s : Bool) (q k : ℕ) → (negative (units binary64 s q k) ≡ s) × (is_nan (units binary64 s q k) ≡ false)
unfolding units
signed_units s q k =
    by (λ (x : Float). (negative x ≡ s) × (is_nan x ≡ false)) (λ (b : Bool). cond b (odd (suc (prec binary64)) s q k (low binary64)) (inf s))
    (ltb (q * 2 ^ k) (2 ^ (low binary64 + suc (emax binary64))))
    (λ h. signed_odd (suc (prec binary64)) s q k (low binary64)) (λ h. unfold negative in unfold is_nan in (refl, refl))

pub negative_round : (s : Bool) (n d : ℕ) → negative (round binary64 s n d) ≡ s
negative_round s n d = rw (round_is binary64 s n d) (signed_units s _ _).0

pub round_number : (s : Bool) (n d : ℕ) → is_nan (round binary64 s n d) ≡ false
round_number s n d = rw (round_is binary64 s n d) (signed_units s _ _).1

pub plain_round : (n d : ℕ) → Plain (round binary64 false n d)
plain_round n d = plain_of (round binary64 false n d) (round_number false n d) (negative_round false n d)

not_below_value : (x : Float) (c : ℕ) → 0 < c → HasValue x true 0 c → NotBelow x
not_below_value nan c C h = h
not_below_value (inf s) c C h = absurd h
not_below_value (fin false m e) c C h = tt
not_below_value (fin true m e) c C h = gone (m * up e) c C (h.1 ∙ zero-mul (down e))

-- a product with what is not below 0
pub scale_not_below : (i : ℕ) (g : ℤ) (s : Bool) (m : ℕ) (e : ℤ) → NotBelow (fin s m e) → NotBelow (fin false i g ⊗ fin s m e)
unfolding mul
scale_not_below i g false m e h = not_below_plain (round binary64 false (i * up g * (m * up e)) (down g * down e))
    (plain_round (i * up g * (m * up e)) (down g * down e))
scale_not_below i g true m e h =
    let D = mul-pos (down_pos g) (down_pos e) in
    not_below_value (round binary64 true (i * up g * (m * up e)) (down g * down e)) (down g * down e) D
    (zero_rounds true (i * up g * (m * up e)) (down g * down e) D (ap (λ (z : ℕ). i * up g * z) h ∙ mul-zero (i * up g)))

infinite_clear : (zero : Bool) → negative (cond zero nan (inf false)) ≡ false
unfolding negative
infinite_clear true = refl
infinite_clear false = refl

pub product_clear : (x y : Float) → negative (magnitude x ⊗ magnitude y) ≡ false
unfolding magnitude mul negative
product_clear nan y = refl
product_clear (inf s) nan = refl
product_clear (inf s) (inf t) = refl
product_clear (inf s) (fin t n d) = infinite_clear (eqb n 0)
product_clear (fin s m e) nan = refl
product_clear (fin s m e) (inf t) = infinite_clear (eqb m 0)
product_clear (fin s m e) (fin t n d) = negative_round false (m * up e * (n * up d)) (down e * down d)

-- ---- v at most |x|, and x below m: v below m
cross : (a da b db c dc : ℕ) → 0 < da → a * db ≤ b * da → b * dc < c * db → a * dc < c * da
cross a da b db c dc DA h k = lt_of_not-le (λ (w : c * da ≤ a * dc). not-le_of_lt k (through c a b dc da db DA w h))

lt_of_le_lt : (v x m : Float) → Plain v → NotBelow x → T (v ≼ magnitude x) → x ≺ m ≡ true → v ≺ m ≡ true
unfolding le lt eq magnitude
lt_of_le_lt v nan m p q h k = absurd q
lt_of_le_lt v (inf true) m p q h k = absurd (true≢false q)
lt_of_le_lt v (inf false) nan p q h k = absurd (true≢false (sym k))
lt_of_le_lt v (inf false) (inf t) p q h k = absurd (true≢false (sym k))
lt_of_le_lt v (inf false) (fin t n d) p q h k = absurd (true≢false (sym k))
lt_of_le_lt nan (fin s m e) y p q h k = absurd p
lt_of_le_lt (inf t) (fin s m e) y p q h k = absurd (infinite t p h)
  where
    infinite : (t : Bool) → t ≡ false → T (t || false) → ⊥
    infinite true p h = true≢false p
    infinite false p h = h
lt_of_le_lt (fin true n d) (fin s m e) y p q h k = absurd (true≢false p)
lt_of_le_lt (fin false n d) (fin s m e) nan p q h k = absurd (true≢false (sym k))
lt_of_le_lt (fin false n d) (fin s m e) (inf u) p q h k = k
lt_of_le_lt (fin false n d) (fin false m e) (fin true i g) p q h k = absurd (true≢false (sym k))
lt_of_le_lt (fin false n d) (fin false m e) (fin false i g) p q h k =
    lt-ltb (n * up d * down g) (i * up g * down d)
    (cross (n * up d) (down d) (m * up e) (down e) (i * up g) (down g) (down_pos d) (or_le (n * up d * down e) (m * up e * down d) true h)
    (ltb-true (m * up e * down g) (i * up g * down e) k))
lt_of_le_lt (fin false n d) (fin true m e) (fin true i g) p q h k =
    absurd (none (i * up g * down e) (m * up e) (down g) q (ltb-true (i * up g * down e) (m * up e * down g) k))
  where
    none : (a b c : ℕ) → b ≡ 0 → a < b * c → ⊥
    none a b c z h = let w : b * c ≡ 0 = ap (λ (y : ℕ). y * c) z ∙ zero-mul c in omega arith
lt_of_le_lt (fin false n d) (fin true m e) (fin false i g) p q h k =
    lt-ltb (n * up d * down g) (i * up g * down d)
    (positive (n * up d) (down d) (i * up g) (down g)
    (gone (n * up d) (down e) (down_pos e) (vanish (n * up d * down e) (m * up e) (down d) q (or_le (n * up d * down e) (m * up e * down d) true h)))
    (first_pos (i * up g) (down e) (rest (m * up e) (down g) (i * up g * down e) q (ltb-true 0 (m * up e * down g + i * up g * down e) k))))
  where
    vanish : (a b c : ℕ) → b ≡ 0 → a ≤ b * c → a ≡ 0
    vanish a b c z h = let w : b * c ≡ 0 = ap (λ (y : ℕ). y * c) z ∙ zero-mul c in omega arith

    rest : (b c r : ℕ) → b ≡ 0 → 0 < b * c + r → 0 < r
    rest b c r z h = let w : b * c ≡ 0 = ap (λ (y : ℕ). y * c) z ∙ zero-mul c in omega arith

    positive : (a da i dg : ℕ) → a ≡ 0 → 0 < i → a * dg < i * down d
    positive a da i dg z h = let w : a * dg ≡ 0 = ap (λ (y : ℕ). y * dg) z ∙ zero-mul dg in let u : 0 < i * down d = mul-pos h (down_pos d) in omega arith

pub zero_at_most : (x : Float) → NotBelow x → T (O ≼ magnitude x)
unfolding magnitude
zero_at_most nan h = absurd h
zero_at_most (inf s) h = unfold le in unfold lt in unfold round in tt
zero_at_most (fin s m e) h = le_of_values O (fin false m e) 0 1 (m * up e) (down e) (lit< tt) (down_pos e) (unfold round in (refl, refl)) (refl, refl)
    (le_trans (le_of_eq (zero-mul (down e))) zero-le)

-- ---- x below a minimum with y, which is a number: what is at most |x| is below y
weak : (x y : Float) → x ≺ y ≡ true → T (x ≼ y)
unfolding le
weak x y h = rw h tt

pub lt_minimum : (x y v u : Float) → NotBelow x → is_nan y ≡ false → negative v ≡ false → x ≺ minimum y v ≡ true → Plain u → T (u ≼ magnitude x) → u ≺ y ≡ true
unfolding minimum
lt_minimum x y v u q n c h p k = go (is_nan v) (v ≺ y) refl refl (rw n at h)
  where
    go : (a b : Bool) → is_nan v ≡ a → v ≺ y ≡ b → x ≺ (if a then y else (if b then v else y)) ≡ true → u ≺ y ≡ true
    go true b e f w = lt_of_le_lt u x y p q k w
    go false true e f w =
        let plain = plain_of v e c in
        lt_of_le_lt u v y p (not_below_plain v plain)
        (subst (λ (z : Float). T (u ≼ z)) (sym (plain_magnitude v plain)) (weak u v (lt_of_le_lt u x v p q k w))) f
    go false false e f w = lt_of_le_lt u x y p q k w

-- ---- nothing is below itself less a value of clear sign
beyond : (a da r dr k w : ℕ) → 0 < k → a * dr < r * da → a * k ≡ w * da → r * k ≤ w * dr → ⊥
beyond a da r dr k w K h e l =
    let x = mul-lt-mul_of_pos_right h K in
    let y = mul-le-mul_right da l in
    let z = ap (λ (n : ℕ). n * dr) e in
    omega arith

most_not_below : (w m : ℕ) (e : ℤ) (r : Float) → m * up e * 2 ^ 1074 ≡ w * down e → AtMost w r → fin false m e ≺ r ≡ true → ⊥
unfolding lt
most_not_below w m e nan x h k = h
most_not_below w m e (inf t) x h k = h
most_not_below w m e (fin true n d) x h k = true≢false (sym k)
most_not_below w m e (fin false n d) x h k = beyond (m * up e) (down e) (n * up d) (down d) (2 ^ 1074) w (pow_pos 1074)
    (ltb-true (m * up e * down d) (n * up d * down e) k) x h

pub infinity_below : (z : Float) → inf false ≺ z ≡ false
unfolding lt
infinity_below nan = refl
infinity_below (inf t) = refl
infinity_below (fin t n d) = refl

pub less_not_above : (x w : Float) → T (fits binary64 x) → Plain x → Plain w → x ≺ x ⊖ w ≡ true → ⊥
unfolding sub
less_not_above nan w f p q h = p
less_not_above (inf true) w f p q h = true≢false p
less_not_above (inf false) nan f p q h = q
less_not_above (inf false) (inf t) f p q h = clash h (infinity_below (inf false ⊖ inf t))
less_not_above (inf false) (fin t n d) f p q h = clash h (infinity_below (inf false ⊖ fin t n d))
less_not_above (fin true m e) w f p q h = true≢false p
less_not_above (fin false m e) nan f p q h = q
less_not_above (fin false m e) (inf true) f p q h = true≢false q
less_not_above (fin false m e) (inf false) f p q h = unfold lt in true≢false (sym h)
less_not_above (fin false m e) (fin true n d) f p q h = true≢false q
less_not_above (fin false m e) (fin false n d) f p q h =
    let a = m * up e * down d in
    let b = n * up d * down e in
    let c = down e * down d in
    let v = own false m e f in
    by (λ (r : Float). fin false m e ≺ r ≡ true → ⊥) (λ (t : Bool). cond t (round binary64 true (b - a) c) (round binary64 false (a - b) c)) (ltb a b)
    (λ t k. clash (lt_of_le_lt O (fin false m e) (round binary64 true (b - a) c) (unfold round in refl) tt (zero_at_most (fin false m e) tt) k)
    (not_above_round (b - a) c))
    (λ t k. most_not_below v.count m e (round binary64 false (a - b) c) v.exact
    (most_round v.count false (a - b) c v.short (mul-pos (down_pos e) (down_pos d))
    (shorter (m * up e) (down e) (down d) b (2 ^ 1074) v.count v.exact)) k)
    h
  where
    shorter : (x dx dy b k w : ℕ) → x * k ≡ w * dx → (x * dy - b) * k ≤ w * (dx * dy)
    shorter x dx dy b k w h = le_trans (mul-le-mul_right k (sub-le (x * dy) b))
        (le_of_eq (mul_right_comm x dy k ∙ ap (λ (z : ℕ). z * dy) h ∙ mul_assoc w dx dy))
