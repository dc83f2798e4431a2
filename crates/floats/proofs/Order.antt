-- The order of floats that are finite and above 0, as cross products of whole numbers, and the operations that keep it. Assumes nothing.
use mathlib.Core.Path.{◌≡◌, refl, sym, ap, ◌∙◌, subst}
use Prim.Native.Nat.{ℕ, ◌+◌, ◌-◌, ◌*◌, ◌≤◌, ◌<◌}
use native.Mathlib.Nat.{le_refl, le_of_lt, mul-pos, mul_comm, mul-sub, mul-le-mul_right}
use native.Mathlib.Omega.{arith}
use mathlib.Core.Bool.{Bool, true, false, cond}
use lib.IntN.{ℤ}
use lib.Dec.{T, ltb, ltb→lt}
use borrow.Author.Tests.{ltb-true, ltb-false}
use lib.Ieee.{Float, nan, inf, fin, Format, binary64, up, down, round, sum, add, sub, lt, le}
use lib.Ieee.Order.{round_mono}
use lib.Ieee.Positive.{num, den, positive, den_pos, le→cross, cross→le, through}
use Rattle.floats.specs.Operators.{◌≺◌, ◌≼◌, ◌⊖◌}
use Rattle.floats.specs.Values.{magnitude}
use Rattle.floats.proofs.Rounding.{magnitude_sub}

-- x is at most y, both finite and above 0
abbrev pub Under : Float → Float → Type 0
Under x y = num x * den y ≤ num y * den x

pub under_trans : (x y z : Float) → Under x y → Under y z → Under x z
under_trans x y z h k = through (num x) (num y) (num z) (den x) (den y) (den z) (den_pos y) h k

pub le_self : (x : Float) → T (positive x) → T (x ≼ x)
le_self x p = cross→le x x p p (le_refl (num x * den x))

-- ---- what a test of two such values says, passed or failed
pub under_of_lt : (x y : Float) → T (positive x) → T (positive y) → x ≺ y ≡ true → Under x y
unfolding lt
under_of_lt nan y p q h = absurd p
under_of_lt (inf s) y p q h = absurd p
under_of_lt (fin true m e) y p q h = absurd p
under_of_lt (fin false m e) nan p q h = absurd q
under_of_lt (fin false m e) (inf t) p q h = absurd q
under_of_lt (fin false m e) (fin true n d) p q h = absurd q
under_of_lt (fin false m e) (fin false n d) p q h = le_of_lt (ltb-true (m * up e * down d) (n * up d * down e) h)

pub under_of_not_lt : (x y : Float) → T (positive x) → T (positive y) → x ≺ y ≡ false → Under y x
unfolding lt
under_of_not_lt nan y p q h = absurd p
under_of_not_lt (inf s) y p q h = absurd p
under_of_not_lt (fin true m e) y p q h = absurd p
under_of_not_lt (fin false m e) nan p q h = absurd q
under_of_not_lt (fin false m e) (inf t) p q h = absurd q
under_of_not_lt (fin false m e) (fin true n d) p q h = absurd q
under_of_not_lt (fin false m e) (fin false n d) p q h = ltb-false (m * up e * down d) (n * up d * down e) h

pub le_of_not_lt : (x y : Float) → T (positive x) → T (positive y) → x ≺ y ≡ false → T (y ≼ x)
le_of_not_lt x y p q h = cross→le y x q p (under_of_not_lt x y p q h)

-- no infinity is at most a finite value
pub not_infinite : (x : Float) → T (positive x) → T (inf false ≼ x) → ⊥
unfolding le lt
not_infinite nan p h = p
not_infinite (inf s) p h = p
not_infinite (fin s m e) p h = unfold lib.Ieee.eq in h

-- ---- the sum
add_is : (f : Format) (x y : Float) → T (positive x) → T (positive y) → add f x y ≡ round f false (num x * den y + num y * den x) (den x * den y)
unfolding add
add_is f nan y p q = absurd p
add_is f (inf s) y p q = absurd p
add_is f (fin true m e) y p q = absurd p
add_is f (fin false m e) nan p q = absurd q
add_is f (fin false m e) (inf t) p q = absurd q
add_is f (fin false m e) (fin true n d) p q = absurd q
add_is f (fin false m e) (fin false n d) p q = refl

grow : (X dx Y dy Z dz W dw : ℕ) → X * dz ≤ Z * dx → Y * dw ≤ W * dy → (X * dy + Y * dx) * (dz * dw) ≤ (Z * dw + W * dz) * (dx * dy)
grow X dx Y dy Z dz W dw h k = omega (arith, mul-le-mul_right (dy * dw) h, mul-le-mul_right (dx * dz) k)

pub add_mono : (f : Format) (x x' y y' : Float) → T (positive x) → T (positive x') → T (positive y) → T (positive y') → T (x ≼ x') → T (y ≼ y')
    → T (add f x y ≼ add f x' y')
add_mono f x x' y y' p p' q q' h k =
    subst (λ (z : Float). T (z ≼ add f x' y')) (sym (add_is f x y p q))
    (subst (λ (z : Float). T (round f false (num x * den y + num y * den x) (den x * den y) ≼ z)) (sym (add_is f x' y' p' q'))
    (round_mono f (num x * den y + num y * den x) (den x * den y) (num x' * den y' + num y' * den x') (den x' * den y') (mul-pos (den_pos x) (den_pos y))
    (mul-pos (den_pos x') (den_pos y'))
    (grow (num x) (den x) (num y) (den y) (num x') (den x') (num y') (den y') (le→cross x x' p p' h) (le→cross y y' q q' k))))

-- ---- the difference, y at most x: x - y and |y - x| are the same rounding of the same fraction
sum_down : (f : Format) (a b c : ℕ) → b ≤ a → sum f false a true b c ≡ round f false (a - b) c
unfolding sum
sum_down f a b c h = go (ltb a b) (ltb→lt a b)
  where
    go : (t : Bool) → (T t → a < b) → cond t (round f true (b - a) c) (round f false (a - b) c) ≡ round f false (a - b) c
    go true k = absurd (omega (arith, k tt))
    go false k = refl

opened : (f : Format) (m : ℕ) (e : ℤ) (n : ℕ) (d : ℤ) → sub f (fin false m e) (fin false n d)
    ≡ sum f false (m * up e * down d) true (n * up d * down e) (down e * down d)
unfolding sub
opened f m e n d = refl

pub sub_down : (x y : Float) → T (positive x) → T (positive y) → Under y x → x ⊖ y ≡ round binary64 false (num x * den y - num y * den x) (den x * den y)
sub_down nan y p q h = absurd p
sub_down (inf s) y p q h = absurd p
sub_down (fin true m e) y p q h = absurd p
sub_down (fin false m e) nan p q h = absurd q
sub_down (fin false m e) (inf t) p q h = absurd q
sub_down (fin false m e) (fin true n d) p q h = absurd q
sub_down (fin false m e) (fin false n d) p q h = opened binary64 m e n d ∙ sum_down binary64 _ _ _ h

pub sub_up : (x y : Float) → T (positive x) → T (positive y) → Under y x → magnitude (y ⊖ x)
    ≡ round binary64 false (num x * den y - num y * den x) (den x * den y)
sub_up nan y p q h = absurd p
sub_up (inf s) y p q h = absurd p
sub_up (fin true m e) y p q h = absurd p
sub_up (fin false m e) nan p q h = absurd q
sub_up (fin false m e) (inf t) p q h = absurd q
sub_up (fin false m e) (fin true n d) p q h = absurd q
sub_up (fin false m e) (fin false n d) p q h =
    magnitude_sub binary64 false n d false m e
    ∙ ap (λ (z : ℕ). round binary64 false z (down d * down e)) (one_way (n * up d * down e) (m * up e * down d) h)
    ∙ ap (round binary64 false (m * up e * down d - n * up d * down e)) (mul_comm (down d) (down e))
  where
    one_way : (a b : ℕ) → a ≤ b → (a - b) + (b - a) ≡ b - a
    one_way a b h = omega arith

pub sub_either : (x y : Float) → T (positive x) → T (positive y) → Under y x → magnitude (y ⊖ x) ≡ x ⊖ y
sub_either x y p q h = sub_up x y p q h ∙ sym (sub_down x y p q h)

-- X / dx - Y / dy ≤ Z / dz - Y / dy for X / dx ≤ Z / dz
further : (X dx Y dy Z dz : ℕ) → X * dz ≤ Z * dx → (X * dy - Y * dx) * (dz * dy) ≤ (Z * dy - Y * dz) * (dx * dy)
further X dx Y dy Z dz h =
    rw (times (X * dy) (Y * dx) (dz * dy), times (Z * dy) (Y * dz) (dx * dy))
    (less (dz * dy * (X * dy)) (dz * dy * (Y * dx)) (dx * dy * (Z * dy)) (dx * dy * (Y * dz)) (omega (arith, mul-le-mul_right (dy * dy) h)) (omega arith))
  where
    times : (a b c : ℕ) → (a - b) * c ≡ c * a - c * b
    times a b c = mul_comm (a - b) c ∙ mul-sub c a b

    less : (a b c d : ℕ) → a ≤ c → b ≡ d → a - b ≤ c - d
    less a b c d h e = omega arith

-- the farther of two values not below y differs from it by more
pub sub_mono : (x z y : Float) → T (positive x) → T (positive z) → T (positive y) → Under y x → Under x z → T (x ⊖ y ≼ z ⊖ y)
sub_mono x z y p r q h k =
    rw (sub_down x y p q h, sub_down z y r q (under_trans y x z h k))
    (round_mono binary64 (num x * den y - num y * den x) (den x * den y) (num z * den y - num y * den z) (den z * den y)
    (mul-pos (den_pos x) (den_pos y)) (mul-pos (den_pos z) (den_pos y)) (further (num x) (den x) (num y) (den y) (num z) (den z) k))
