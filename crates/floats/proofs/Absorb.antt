-- A sum that a term leaves as it was is left so by every term that is at most as large: rounding is monotone. And with at most c units in g, w at most 8 and
-- d at least 8, g × w / d has at most c units, both roundings counted: 8 times a short number is short. Assumes nothing.
use mathlib.Core.Path.{◌≡◌, refl, sym, ap, ◌∙◌, subst}
use Prim.Native.Nat.{ℕ, suc, ◌+◌, ◌*◌, ◌^◌, ◌≤◌}
use native.Mathlib.Nat.{le_of_eq, le_trans, le_antisymm, lt_of_le_of_lt, mul-pos, mul_assoc, mul-le-mul_right, le_of_mul-le-mul_right}
use native.Mathlib.Omega.{arith}
use mathlib.Core.Bool.{false}
use lib.IntN.{ℤ}
use lib.Dec.{T, lit<}
use lib.Pow.{pow-add, pow_pos}
use lib.Ieee.{Float, nan, inf, fin, binary64, up, down, fits, add, sum}
use lib.Ieee.Fits.{down_pos, add-fits}
use lib.Ieee.Order.{round_mono}
use lib.Ieee.Positive.{above, through}
use Rattle.floats.specs.Operators.{◌≼◌, ◌⊕◌, ◌⊗◌, ◌⊘◌}
use Rattle.floats.specs.Values.{magnitude}
use Rattle.floats.proofs.Rounding.{magnitude_round}
use Rattle.floats.proofs.Short.{Short, AtMost, most_of_le, own}
use Rattle.floats.proofs.Bounds.{AtLeast, Bounded, Clear, both_clear, clear_of, most_mul, most_div, least_add_left, negative_add, negative_mul}
use Rattle.floats.proofs.Bounds.{negative_div}
use Rattle.floats.proofs.Above.{by_above, written_once}

-- ---- the units that a float is
pub record Counted (x : Float) : Type 0 where
  pub count : ℕ
  pub short : Short count
  pub most : AtMost count x
  pub least : AtLeast count x

pub counted : (x : Float) → T (fits binary64 x) → Clear x → Counted x
counted nan f p = absurd p
counted (inf s) f p = absurd p
counted (fin s m e) f p =
    let o = own s m e f in record { count = o.count; short = o.short; most = le_of_eq o.exact; least = le_of_eq (sym o.exact) }

pub least_most : (c w : ℕ) (x : Float) → Clear x → AtLeast c x → AtMost w x → c ≤ w
least_most c w nan p h l = absurd p
least_most c w (inf s) p h l = absurd p
least_most c w (fin s m e) p h l = le_of_mul-le-mul_right (le_trans h l) (down_pos e)

same_count : (c : ℕ) (x y : Float) → Clear x → Clear y → T (fits binary64 x) → T (fits binary64 y) → AtMost c x → AtLeast c x → AtMost c y → AtLeast c y → x ≡ y
same_count c =
    both_clear (λ x y. T (fits binary64 x) → T (fits binary64 y) → AtMost c x → AtLeast c x → AtMost c y → AtLeast c y → x ≡ y)
    (λ m e n d f g a b a' b'. written_once false m e n d f g
    (le_antisymm (through (m * up e) c (n * up d) (down e) (2 ^ 1074) (down d) (pow_pos 1074) a b')
    (through (n * up d) c (m * up e) (down d) (2 ^ 1074) (down e) (pow_pos 1074) a' b)))

-- ---- the sum
sum_mono : (c m : ℕ) (e : ℤ) (g h : Float) → Clear g → Clear h → AtLeast c g → AtMost c h → T (magnitude (fin false m e ⊕ h) ≼ fin false m e ⊕ g)
unfolding add
sum_mono c m e =
    both_clear (λ g h. AtLeast c g → AtMost c h → T (magnitude (fin false m e ⊕ h) ≼ fin false m e ⊕ g))
    (λ n d k b l a. unfold sum in rw (magnitude_round binary64 false (m * up e * down b + k * up b * down e) (down e * down b))
    (round_mono binary64 (m * up e * down b + k * up b * down e) (down e * down b) (m * up e * down d + n * up d * down e) (down e * down d)
    (mul-pos (down_pos e) (down_pos b)) (mul-pos (down_pos e) (down_pos d))
    (more (m * up e) (down e) (k * up b) (down b) (n * up d) (down d)
    (through (k * up b) c (n * up d) (down b) (2 ^ 1074) (down d) (pow_pos 1074) a l))))
  where
    more : (X dx Y dy Z dz : ℕ) → Y * dz ≤ Z * dy → (X * dy + Y * dx) * (dx * dz) ≤ (X * dz + Z * dx) * (dx * dy)
    more X dx Y dy Z dz h = omega (arith, mul-le-mul_right (dx * dx) h)

-- a sum that g leaves as it was is left so by an h of at most as many units
pub absorbs : (c : ℕ) (s g h : Float) → T (above s) → T (fits binary64 s) → Clear g → AtLeast c g → Clear h → AtMost c h → s ⊕ g ≡ s → s ⊕ h ≡ s
absorbs c s g h p f q a r b =
    by_above (λ s. T (fits binary64 s) → s ⊕ g ≡ s → s ⊕ h ≡ s)
    (λ f x. both_clear (λ g h. inf false ⊕ h ≡ inf false) (λ m e n d. unfold add in refl) g h q r) (λ m e. finite (suc m) e) s p f
  where
    finite : (m : ℕ) (e : ℤ) → T (fits binary64 (fin false m e)) → fin false m e ⊕ g ≡ fin false m e → fin false m e ⊕ h ≡ fin false m e
    finite m e f x =
        let s = fin false m e in
        let o = own false m e f in
        let most = most_of_le o.count (s ⊕ h) s (refl, o.exact) (subst (λ (z : Float). T (magnitude (s ⊕ h) ≼ z)) x (sum_mono c m e g h q r a b)) in
        let least = le_of_eq (sym o.exact) in
        same_count o.count (s ⊕ h) s (clear_of o.count (s ⊕ h) most (negative_add s h refl r)) refl (add-fits binary64 s h) f
        most (least_add_left o.count s h o.short refl r least) (le_of_eq o.exact) least

-- ---- the next term of a series: times at most 8, over at least 8
eightfold : (c : ℕ) → Short c → c ≤ 2 ^ 1074 → Short (c * 8)
eightfold c h l = record {
  digits = h.digits;
  zeros = h.zeros + 3;
  is = ap (λ (x : ℕ). x * 8) h.is ∙ mul_assoc h.digits (2 ^ h.zeros) 8 ∙ ap (λ (x : ℕ). h.digits * x) (sym (pow-add 2 h.zeros 3));
  few = h.few;
  small = lt_of_le_of_lt (mul-le-mul_right 8 l) (lit< tt);
}

pub shrinks : (c : ℕ) (g w d : Float) → Short c → c ≤ 2 ^ 1074 → Clear g → AtMost c g → Clear w → Bounded 1077 w → Clear d → AtLeast (2 ^ 1077) d
    → Clear (g ⊗ w ⊘ d) × AtMost c (g ⊗ w ⊘ d)
shrinks c g w d S h p a q b r l =
    let x : c * 8 * 2 ^ 1074 ≡ c * 2 ^ 1077 = mul_assoc c 8 (2 ^ 1074) in
    let m = most_mul c (2 ^ 1077) (c * 8) g w (eightfold c S h) (le_of_eq (sym x)) a b in
    let n = most_div (c * 8) (2 ^ 1077) c (g ⊗ w) d S (pow_pos 1077) (le_of_eq x) m l in
    let clear = clear_of (c * 8) (g ⊗ w) m (negative_mul g w p q) in
    (clear_of c (g ⊗ w ⊘ d) n (negative_div (2 ^ 1077) (g ⊗ w) d clear r (pow_pos 1077) l), n)
