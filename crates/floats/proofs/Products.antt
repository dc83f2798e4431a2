-- The sign of a product, and where a product cannot vanish. Assumes nothing.
use mathlib.Core.Path.{◌≡◌, refl, sym, ap, ◌∙◌, subst}
use Prim.Native.Nat.{ℕ, zero, suc, ◌*◌, ◌≤◌, ◌<◌, zero-le, suc-le-suc}
use native.Mathlib.Nat.{mul-pos, mul_comm, zero-mul, zero-lt-suc}
use native.Mathlib.Omega.{arith}
use mathlib.Core.Bool.{Bool, true, false, true≢false}
use lib.IntN.{ℤ}
use lib.Dec.{T, lt→ltb}
use borrow.Author.Tests.{le-ltb}
use lib.Ieee.{Float, nan, inf, fin, binary64, up, down, unlike, lt, mul, round}
use lib.Ieee.Fits.{down_pos}
use lib.Ieee.Exact.{HasValue}
use lib.Ieee.Positive.{positive, le_trans_positive, above_of_le, mul_mono, first_pos}
use Rattle.floats.specs.Operators.{◌≺◌, ◌≼◌, ◌⊗◌}
use Rattle.floats.specs.Values.{magnitude, finite}
use Rattle.floats.proofs.Tests.{clash}
use Rattle.floats.proofs.Signs.{O, below_zero, below_fin, positive_of_lt, positive_of_neg, positive_magnitude, lt_of_above, not_above_round}
use Rattle.floats.proofs.Signs.{not_both_signs}
use Rattle.floats.proofs.Rounding.{zero_rounds}
use Rattle.floats.proofs.Order.{le_of_not_lt}

-- not both above 0, nor both below
pub record Opposed (x y : Float) : Type 0 where
  pub not_above_lem : O ≺ x ≡ true → O ≺ y ≡ true → ⊥
  pub not_below : x ≺ O ≡ true → y ≺ O ≡ true → ⊥

pub data Alike : Float → Float → Type 0 where
  both_above : {x y : Float} → O ≺ x ≡ true → O ≺ y ≡ true → Alike x y
  both_below : {x y : Float} → x ≺ O ≡ true → y ≺ O ≡ true → Alike x y

pub opposed_turns : (x y : Float) → Opposed x y → Opposed y x
opposed_turns x y o = record { not_above_lem = λ h k. o.not_above_lem k h; not_below = λ h k. o.not_below k h }

-- a opposes c, and b is like c: b opposes a
pub opposed_like : (a b c : Float) → Opposed a c → Alike b c → Opposed b a
opposed_like a b c o (both_above p q) = record { not_above_lem = λ h k. o.not_above_lem k q; not_below = λ h k. not_both_signs b p h }
opposed_like a b c o (both_below p q) = record { not_above_lem = λ h k. not_both_signs b h p; not_below = λ h k. o.not_below k q }

-- ---- two values from `least` on, whose square does not vanish: nor does their product
product_above : (least x y : Float) → T (positive least) → T (positive (least ⊗ least)) → T (positive x) → T (positive y) → x ≺ least ≡ false → y ≺ x ≡ false
    → O ≺ x ⊗ y ≡ true
product_above least x y l s p q h k =
    let a : T (least ≼ x) = le_of_not_lt x least p l h in
    let b : T (x ≼ y) = le_of_not_lt y x q p k in
    let c : T (least ≼ y) = le_trans_positive least x y l p q a b in
    lt_of_above (x ⊗ y) (above_of_le (least ⊗ least) (x ⊗ y) s (mul_mono binary64 least x least y l p l q a c))

mul_below : (x y : Float) → finite x ≡ true → finite y ≡ true → x ≺ O ≡ true → y ≺ O ≡ true → x ⊗ y ≡ magnitude x ⊗ magnitude y
unfolding lt round magnitude mul
mul_below nan y f g h k = absurd (true≢false (sym f))
mul_below (inf s) y f g h k = absurd (true≢false (sym f))
mul_below (fin s m e) nan f g h k = absurd (true≢false (sym g))
mul_below (fin s m e) (inf t) f g h k = absurd (true≢false (sym g))
mul_below (fin false m e) (fin t n d) f g h k = absurd (below_zero (m * up e * 1) (down e) h)
mul_below (fin true m e) (fin false n d) f g h k = absurd (below_zero (n * up d * 1) (down d) k)
mul_below (fin true m e) (fin true n d) f g h k = refl

-- so where the smaller of two is not under `least` and the product is not above 0, the two are opposed
pub opposed_of_product : (least x y : Float) → T (positive least) → T (positive (least ⊗ least)) → finite x ≡ true → finite y ≡ true → O ≺ x ⊗ y ≡ false
    → magnitude x ≺ least ≡ false → magnitude y ≺ magnitude x ≡ false → Opposed x y
opposed_of_product least x y l s f g z h k =
    record {
      not_above_lem = λ a b.
          let p = positive_of_lt x f a in
          let q = positive_of_lt y g b in
          clash (product_above least x y l s p q (rw (positive_magnitude x p) at h) (rw (positive_magnitude y q, positive_magnitude x p) at k)) z;
      not_below =
          λ a b. clash (ap (λ (w : Float). O ≺ w) (mul_below x y f g a b)
          ∙ product_above least (magnitude x) (magnitude y) l s (positive_of_neg x f a) (positive_of_neg y g b) h k) z;
    }

-- ---- a product above 0 has factors of one sign
nothing_above : (x : Float) (s : Bool) (c : ℕ) → 0 < c → HasValue x s 0 c → O ≺ x ≡ false
unfolding lt round
nothing_above nan s c C h = refl
nothing_above (inf t) s c C h = absurd h
nothing_above (fin true m e) s c C h = refl
nothing_above (fin false m e) s c C h = le-ltb (0 * down e) (m * up e * 1) (go (m * up e) (h.1 ∙ zero-mul (down e)))
  where
    go : (a : ℕ) → a * c ≡ 0 → a * 1 ≤ 0 * down e
    go zero p = zero-le
    go (suc a) p = absurd (let q : 0 < suc a * c = mul-pos (zero-lt-suc a) C in omega arith)

above_round : (u : Bool) (n d : ℕ) → 0 < d → O ≺ round binary64 u n d ≡ true → (u ≡ false) × (0 < n)
above_round true n d D h = clash h (not_above_round n d)
above_round false zero d D h = clash h (nothing_above (round binary64 false 0 d) false d D (zero_rounds false 0 d D refl))
above_round false (suc n) d D h = (refl, suc-le-suc zero-le)

factors_above : (m u n w : ℕ) → 0 < m * u * (n * w) → (0 < m) × (0 < n)
factors_above m u n w h =
    (first_pos m u (first_pos (m * u) (n * w) h), first_pos n w (first_pos (n * w) (m * u) (subst (λ (z : ℕ). 0 < z) (mul_comm (m * u) (n * w)) h)))

above_fin : (m : ℕ) (e : ℤ) → 0 < m → O ≺ fin false m e ≡ true
above_fin m e h = lt_of_above (fin false m e) (lt→ltb 0 m h)

pub alike_of_product : (x y : Float) → finite x ≡ true → finite y ≡ true → O ≺ x ⊗ y ≡ true → Alike x y
unfolding mul
alike_of_product nan y f g h = absurd (true≢false (sym f))
alike_of_product (inf s) y f g h = absurd (true≢false (sym f))
alike_of_product (fin s m e) nan f g h = absurd (true≢false (sym g))
alike_of_product (fin s m e) (inf t) f g h = absurd (true≢false (sym g))
alike_of_product (fin s m e) (fin t n d) f g h =
    go s t (above_round (unlike s t) (m * up e * (n * up d)) (down e * down d) (mul-pos (down_pos e) (down_pos d)) h)
  where
    go : (s t : Bool) → (unlike s t ≡ false) × (0 < m * up e * (n * up d)) → Alike (fin s m e) (fin t n d)
    go true true w = let z = factors_above m (up e) n (up d) w.1 in both_below (below_fin m e z.0) (below_fin n d z.1)
    go true false w = absurd (true≢false w.0)
    go false true w = absurd (true≢false w.0)
    go false false w = let z = factors_above m (up e) n (up d) w.1 in both_above (above_fin m e z.0) (above_fin n d z.1)
