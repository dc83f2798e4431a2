-- A test's value, as an equation and as a fact. Assumes nothing.
use mathlib.Core.Path.{◌≡◌, refl, sym, ◌∙◌, subst}
use Prim.Native.Nat.{ℕ, ◌≤◌, ◌<◌}
use native.Mathlib.Nat.{le_of_eq, le_of_lt}
use mathlib.Core.Bool.{Bool, true, false, ◌&&◌, ◌||◌, true≢false}
use lib.Dec.{T, ltb, eqb, ltb→lt, eqb→eq}

-- A choice, by its test: what holds of either arm holds of the choice.
pub by : {X : Type 0} (P : X → Type 0) (f : Bool → X) (b : Bool) → (b ≡ true → P (f true)) → (b ≡ false → P (f false)) → P (f b)
by P f true p q = p refl
by P f false p q = q refl

pub split : {X : Type 0} (b : Bool) → (b ≡ true → X) → (b ≡ false → X) → X
split true p q = p refl
split false p q = q refl

-- No test has both values.
pub clash : {X : Type 0} {b : Bool} → b ≡ true → b ≡ false → X
clash p q = absurd (true≢false (sym p ∙ q))

pub holds : (b : Bool) → b ≡ true → T b
holds b e = subst T (sym e) tt

pub true_of : (b : Bool) → T b → b ≡ true
true_of true t = refl
true_of false t = absurd t

pub and_left : (a b : Bool) → (a && b) ≡ true → a ≡ true
and_left true b h = refl
and_left false b h = h

pub and_right : (a b : Bool) → (a && b) ≡ true → b ≡ true
and_right true b h = h
and_right false b h = absurd (true≢false (sym h))

pub or_left : (a b : Bool) → (a || b) ≡ true → b ≡ false → a ≡ true
or_left true b h q = refl
or_left false b h q = absurd (true≢false (sym h ∙ q))

pub and_false : (a : Bool) → (a && false) ≡ false
and_false true = refl
and_false false = refl

pub or_true : (a : Bool) → (a || true) ≡ true
or_true true = refl
or_true false = refl

pub or_left_false : (a b : Bool) → (a || b) ≡ false → a ≡ false
or_left_false true b h = h
or_left_false false b h = refl

pub or_right_false : (a b : Bool) → (a || b) ≡ false → b ≡ false
or_right_false true b h = absurd (true≢false h)
or_right_false false b h = h

-- a float test `<=` of two magnitudes, as whole numbers over one denominator
pub or_le : (a b : ℕ) (c : Bool) → T (ltb a b || (eqb a b && c)) → a ≤ b
or_le a b c t = go (ltb a b) (eqb a b) (ltb→lt a b) (eqb→eq a b) t
  where
    go : (x y : Bool) → (T x → a < b) → (T y → a ≡ b) → T (x || (y && c)) → a ≤ b
    go true y p q t = le_of_lt (p tt)
    go false true p q t = le_of_eq (q tt)
    go false false p q t = absurd t

-- the same of two values below 0, where the larger magnitude is the smaller value
pub or_ge : (a b : ℕ) (c : Bool) → T (ltb b a || (eqb a b && c)) → b ≤ a
or_ge a b c t = go (ltb b a) (eqb a b) (ltb→lt b a) (eqb→eq a b) t
  where
    go : (x y : Bool) → (T x → b < a) → (T y → a ≡ b) → T (x || (y && c)) → b ≤ a
    go true y p q t = le_of_lt (p tt)
    go false true p q t = le_of_eq (sym (q tt))
    go false false p q t = absurd t
