-- A step from b towards c that is no longer than their exact distance stays in every range that holds both: rounding keeps the range. Assumes nothing.
use mathlib.Core.Path.{◌≡◌, refl, sym, ap, subst}
use Prim.Native.Nat.{ℕ, zero, suc, ◌+◌, ◌-◌, ◌*◌, ◌^◌, ◌≤◌, ◌<◌}
use native.Mathlib.Nat.{le_of_eq, zero-add, zero-mul, zero-lt-suc, mul-pos, mul-le-mul_right, le_of_mul-le-mul_right}
use native.Mathlib.Omega.{arith}
use mathlib.Core.Bool.{Bool, true, false, cond}
use lib.IntN.{ℤ}
use lib.Dec.{T, ltb}
use lib.Pow.{pow_pos}
use borrow.Author.Tests.{ltb-true, ltb-false}
use lib.Ieee.{Float, nan, inf, fin, binary64, up, down, add, sub, sum, round}
use lib.Ieee.Fits.{down_pos}
use lib.Ieee.Order.{round_mono}
use Rattle.floats.specs.Operators.{◌⊕◌, ◌⊖◌, ◌≼◌}
use Rattle.floats.proofs.Tests.{by}
use Rattle.floats.proofs.Quotients.{Toward}

-- ---- a difference: its sign says which is the larger
pub sub_signed : (m : ℕ) (e : ℤ) (n : ℕ) (d : ℤ) → fin false m e ⊖ fin false n d
    ≡ round binary64 (ltb (m * up e * down d) (n * up d * down e)) ((m * up e * down d - n * up d * down e) + (n * up d * down e - m * up e * down d))
    (down e * down d)
unfolding sub
sub_signed m e n d = go (m * up e * down d) (n * up d * down e) (down e * down d)
  where
    more : (a b : ℕ) → a < b → b - a ≡ (a - b) + (b - a)
    more a b h = omega arith

    less : (a b : ℕ) → b ≤ a → a - b ≡ (a - b) + (b - a)
    less a b h = omega arith

    test : (a b c : ℕ) (t : Bool) → ltb a b ≡ t
        → cond t (round binary64 true (b - a) c) (round binary64 false (a - b) c) ≡ round binary64 t ((a - b) + (b - a)) c
    test a b c true h = ap (λ (z : ℕ). round binary64 true z c) (more a b (ltb-true a b h))
    test a b c false h = ap (λ (z : ℕ). round binary64 false z c) (less a b (ltb-false a b h))

    go : (a b c : ℕ) → sum binary64 false a true b c ≡ round binary64 (ltb a b) ((a - b) + (b - a)) c
    go a b c = unfold sum in test a b c (ltb a b) refl

-- ---- the numbers: b / db and c / dc, a step x / dx, a range from l / dl to h / dh
rise : (b db c dc x dx h dh gap : ℕ) → 0 < dc → gap + b * dc ≡ c * db → x * (dc * db) ≤ gap * dx → c * dh ≤ h * dc → (b * dx + x * db) * dh ≤ h * (db * dx)
rise b db c dc x dx h dh gap D e l k =
    le_of_mul-le-mul_right {k = dc}
    (let p = mul-le-mul_right dh l in
    let q = mul-le-mul_right (db * dx) k in
    let r = ap (λ (z : ℕ). z * (dx * dh)) e in
    let z : (b * dx + x * db) * dh * dc ≤ h * (db * dx) * dc = omega arith in z)
    D

enough : (b db c dc x dx gap : ℕ) → 0 < dc → gap + c * db ≡ b * dc → x * (dc * db) ≤ gap * dx → x * db ≤ b * dx
enough b db c dc x dx gap D e l =
    le_of_mul-le-mul_right {k = dc} (let r = ap (λ (z : ℕ). z * dx) e in let z : x * db * dc ≤ b * dx * dc = omega arith in z) D

fall : (b db c dc x dx l dl gap r : ℕ) → 0 < dc → gap + c * db ≡ b * dc → x * (dc * db) ≤ gap * dx → l * dc ≤ c * dl → r + x * db ≡ b * dx
    → l * (db * dx) ≤ r * dl
fall b db c dc x dx l dl gap r D e k h f =
    le_of_mul-le-mul_right {k = dc}
    (let p = mul-le-mul_right dl k in
    let q = mul-le-mul_right (db * dx) h in
    let s = ap (λ (z : ℕ). z * (dx * dl)) e in
    let t = ap (λ (z : ℕ). z * (dc * dl)) f in
    let z : l * (db * dx) * dc ≤ r * dl * dc = omega arith in z)
    D

nothing : (a b c : ℕ) → 0 * a * b ≡ 0 * c
nothing a b c = simp zero-mul

-- ---- the sums
module _ (l dl h dh : ℕ) (DL : 0 < dl) (DH : 0 < dh) (n : ℕ) (d : ℤ) (bl : l * down d ≤ n * up d * dl) (bh : n * up d * dh ≤ h * down d) where
  abbrev Held : Float → Type 0
  Held y = T (round binary64 false l dl ≼ y) × T (y ≼ round binary64 false h dh)

  module _ (c dc : ℕ) (D : 0 < dc) (cl : l * dc ≤ c * dl) (ch : c * dh ≤ h * dc) where
    held_up : (k : ℕ) (g : ℤ) (gap : ℕ) → gap + n * up d * dc ≡ c * down d → k * up g * (dc * down d) ≤ gap * down g → Held (fin false n d ⊕ fin false k g)
    unfolding add
    held_up k g gap e x =
        let Z = mul-pos (down_pos d) (down_pos g) in
        let N = n * up d * down g + k * up g * down d in
        unfold sum in (
          round_mono binary64 l dl N (down d * down g) DL Z (more (n * up d) (down d) (k * up g) (down g) l dl bl),
          round_mono binary64 N (down d * down g) h dh Z DH (rise (n * up d) (down d) c dc (k * up g) (down g) h dh gap D e x ch),
        )
      where
        more : (b db x dx l dl : ℕ) → l * db ≤ b * dl → l * (db * dx) ≤ (b * dx + x * db) * dl
        more b db x dx l dl h = omega (arith, mul-le-mul_right dx h)

    held_down : (k : ℕ) (g : ℤ) (gap : ℕ) → gap + c * down d ≡ n * up d * dc → k * up g * (dc * down d) ≤ gap * down g → Held (fin false n d ⊕ fin true k g)
    unfolding add
    held_down k g gap e x =
        let Z = mul-pos (down_pos d) (down_pos g) in
        let b = n * up d * down g in
        let a = k * up g * down d in
        let o : a ≤ b = enough (n * up d) (down d) c dc (k * up g) (down g) gap D e x in
        let r = b - a in
        let s : r + a ≡ b = omega arith in
        unfold sum in by Held (λ (t : Bool). cond t (round binary64 true (a - b) (down d * down g)) (round binary64 false (b - a) (down d * down g))) (ltb b a)
        (λ w. absurd (let q = ltb-true b a w in omega arith))
        (λ w. (
          round_mono binary64 l dl (b - a) (down d * down g) DL Z (fall (n * up d) (down d) c dc (k * up g) (down g) l dl gap r D e x cl s),
          round_mono binary64 (b - a) (down d * down g) h dh Z DH (less (n * up d) (down d) (down g) h dh r (omega arith) bh),
        ))
      where
        less : (b db dx h dh r : ℕ) → r ≤ b * dx → b * dh ≤ h * db → r * dh ≤ h * (db * dx)
        less b db dx h dh r w k = omega (arith, mul-le-mul_right dh w, mul-le-mul_right dx k)

  -- a step of w units or less towards c, and c at least that far
  module _ (m : ℕ) (e : ℤ) (cl : l * down e ≤ m * up e * dl) (ch : m * up e * dh ≤ h * down e) (w : ℕ) where
    abbrev far : ℕ
    far = (m * up e * down d - n * up d * down e) + (n * up d * down e - m * up e * down d)

    within_gap : (k : ℕ) (g : ℤ) → k * up g * 2 ^ 1074 ≤ w * down g → w * (down e * down d) ≤ far * 2 ^ 1074 → k * up g * (down e * down d) ≤ far * down g
    within_gap k g x y = short (k * up g) (down g) (down e * down d) far w (2 ^ 1074) (pow_pos 1074) x y
      where
        short : (x dx z f w k : ℕ) → 0 < k → x * k ≤ w * dx → w * z ≤ f * k → x * z ≤ f * dx
        short x dx z f w k K h l = le_of_mul-le-mul_right {k = k}
            (let p = mul-le-mul_right z h in let q = mul-le-mul_right dx l in let r : x * z * k ≤ f * dx * k = omega arith in r) K

    zero_step : (s : Bool) (g : ℤ) → Held (fin false n d ⊕ fin s 0 g)
    zero_step false g = held_up (n * up d) (down d) (down_pos d) bl bh 0 g 0 (zero-add (n * up d * down d))
        (le_of_eq (nothing (up g) (down d * down d) (down g)))
    zero_step true g = held_down (n * up d) (down d) (down_pos d) bl bh 0 g 0 (zero-add (n * up d * down d))
        (le_of_eq (nothing (up g) (down d * down d) (down g)))

    towards : (t : Bool) → ltb (m * up e * down d) (n * up d * down e) ≡ t → w * (down e * down d) ≤ far * 2 ^ 1074 → (k : ℕ) (g : ℤ)
        → k * up g * 2 ^ 1074 ≤ w * down g → Held (fin false n d ⊕ fin t k g)
    towards false o y k g x =
        let i : n * up d * down e ≤ m * up e * down d = ltb-false (m * up e * down d) (n * up d * down e) o in
        held_up (m * up e) (down e) (down_pos e) cl ch k g far (omega arith) (within_gap k g x y)
    towards true o y k g x =
        let i : m * up e * down d < n * up d * down e = ltb-true (m * up e * down d) (n * up d * down e) o in
        held_down (m * up e) (down e) (down_pos e) cl ch k g far (omega arith) (within_gap k g x y)

    pub step_within : (t : Bool) (x : Float) → ltb (m * up e * down d) (n * up d * down e) ≡ t → w * (down e * down d) ≤ far * 2 ^ 1074 → Toward t w x
        → T (round binary64 false l dl ≼ fin false n d ⊕ x) × T (fin false n d ⊕ x ≼ round binary64 false h dh)
    step_within t nan o y x = absurd x
    step_within t (inf s) o y x = absurd x
    step_within t (fin s zero g) o y x = zero_step s g
    step_within t (fin s (suc k) g) o y x = subst (λ (u : Bool). Held (fin false n d ⊕ fin u (suc k) g)) (sym (x.1 (zero-lt-suc k)))
        (towards t o y (suc k) g x.0)
