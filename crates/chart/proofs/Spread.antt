-- On an axis of values that are finite and above 0, every value has a place; axis values are among the values, above one another and not near one
-- another, so that each is its own place. Assumes nothing.
use Prim.Native.Nat.{ℕ, zero, suc, ◌-◌, ◌*◌, ◌≤◌, ◌<◌}
use mathlib.Core.Path.{◌≡◌, refl, sym, ap, ◌∙◌, subst}
use mathlib.Core.Bool.{true, false}
use mathlib.Core.Logic.{◌⊎◌, inl, inr}
use mathlib.Core.List.{List, [], ◌∷◌}
use native.Mathlib.Nat.{mul_right_comm, mul-le-mul_right, mul-pos, mul-lt-mul_of_pos_right, lt_of_mul-lt-mul_right}
use native.Mathlib.Nat.{le_of_eq, le_of_suc-le-suc, lt_of_le_of_lt, lt_of_lt_of_le}
use native.Mathlib.Omega.{arith}
use lib.Dec.{T}
use lib.ListN.{length, get_or}
use lib.Ieee.{Float, nan, inf, fin, binary64, lt, le, up, down, round}
use lib.Ieee.Bits.{is_true}
use lib.Ieee.Fits.{down_pos}
use lib.Ieee.Scale.{round_same}
use lib.Ieee.Positive.{positive, num, den, den_pos, cross→le, sub_anti, positive-finite}
use borrow.Author.Tests.{ltb-true, lt-ltb}
use Rattle.floats.specs.Operators.{◌⊖◌, ◌≺◌, ◌≼◌}
use Rattle.floats.specs.Values.{magnitude, finite}
use Rattle.floats.proofs.Tests.{clash, or_le, split}
use Rattle.floats.proofs.Order.{Under, under_trans, under_of_not_lt, sub_down, sub_either}
use Rattle.grid.specs.Search.{first_where}
use Rattle.grid.specs.Readings.{ascends, is_axis}
use Rattle.chart.specs.Axis.{hair, kept_after, thinned, axis, near, place}
use Rattle.chart.specs.Meaning.{SpacedAfter, Spaced}
use Rattle.chart.specs.Steps.{Pos, Ascending}
use Rattle.chart.proofs.Ordered.{Mem, Over, Ordered, sort_pos, sort_ordered, sort_mem, mem_sort, sorted_of}

-- ---- near and far
-- a value less than a hair above the last one kept belongs to it
pub near_below : (x y : Float) → T (positive x) → T (positive y) → Under y x → x ⊖ y ≺ hair ≡ true → near y x ≡ true
unfolding near
near_below x y p q h k = rw (sub_either x y p q h) k

-- a difference of nothing is under a hair
pub no_gap : (x y : Float) → T (positive x) → T (positive y) → Under y x → Under x y → x ⊖ y ≺ hair ≡ true
no_gap x y p q h k =
    let z : num x * den y - num y * den x ≡ 0 = omega arith in
    let c : 0 < den x * den y = mul-pos (den_pos x) (den_pos y) in
    rw (sub_down x y p q h, z, round_same binary64 false 0 (den x * den y) 0 1 c (omega arith) (omega arith)) nothing
  where
    nothing : round binary64 false 0 1 ≺ hair ≡ true
    nothing = unfold lt round in refl

-- each value belongs to itself
pub near_self : (x : Float) → T (positive x) → near x x ≡ true
near_self x p = near_below x x p p (omega arith) (no_gap x x p p (omega arith) (omega arith))

-- x / p ≤ y / q < z / r
strict : (x y z p q r : ℕ) → 0 < p → x * q ≤ y * p → y * r < z * q → x * r < z * p
strict x y z p q r P h k =
    lt_of_mul-lt-mul_right q
    (lt_of_le_of_lt (le_of_eq (mul_right_comm x r q))
    (lt_of_le_of_lt (mul-le-mul_right r h)
    (lt_of_le_of_lt (le_of_eq (mul_right_comm y p r))
    (lt_of_lt_of_le (mul-lt-mul_of_pos_right k P) (le_of_eq (mul_right_comm z q p))))))

-- of two magnitudes, the smaller is under a hair where the larger is
pub under_hair : (x y : Float) → T (magnitude x ≼ magnitude y) → magnitude y ≺ hair ≡ true → magnitude x ≺ hair ≡ true
unfolding le lt magnitude round
under_hair nan y h k = absurd h
under_hair (inf s) nan h k = absurd h
under_hair (inf s) (inf t) h k = k
under_hair (inf s) (fin t n d) h k = absurd h
under_hair (fin s m e) nan h k = absurd h
under_hair (fin s m e) (inf t) h k = clash refl (sym k)
under_hair (fin s m e) (fin t n d) h k =
    lt-ltb _ _ (strict (m * up e) (n * up d) (num hair) (down e) (down d) (den hair) (down_pos e)
    (or_le (m * up e * down d) (n * up d * down e) true h) (ltb-true (n * up d * den hair) (num hair * down d) k))

-- a value that is no hair below x is far from it, and so is every value below that one
pub far : (j k x : Float) → T (positive j) → T (positive k) → T (positive x) → Under j k → Under k x → x ⊖ k ≺ hair ≡ false → near j x ≡ false
unfolding near
far j k x p q r h g n =
    let jx = under_trans j k x h g in
    let m : T (magnitude (k ⊖ x) ≼ magnitude (j ⊖ x)) =
    rw (sub_either x k r q g, sub_either x j r p jx) (sub_anti binary64 x j k r p q (cross→le j k p q h) (cross→le k x q r g)) in
    split (magnitude (j ⊖ x) ≺ hair)
    (λ t. clash (sym (ap (λ (z : Float). z ≺ hair) (sub_either x k r q g)) ∙ under_hair (k ⊖ x) (j ⊖ x) m t) n)
    (λ t. t)

-- ---- every value has a place
abbrev Near : Float → List Float → Type 0
Near x [] = ⊥
Near x (a ∷ rest) = (near a x ≡ true) ⊎ Near x rest

place_lt : (x : Float) (l : List Float) → Near x l → place l x < length l
unfolding first_where
place_lt x [] n = absurd n
place_lt x (a ∷ rest) (inl t) = rw t (omega arith)
place_lt x (a ∷ rest) (inr n) =
    let r = place_lt x rest n in
    split (near a x) (λ t. rw t (omega arith)) (λ t. rw t (omega arith))

kept_near : (k : Float) (xs : List Float) (x : Float) → T (positive k) → Pos xs → Over k xs → Ordered xs → Mem x xs → Near x (k ∷ kept_after k xs)
unfolding kept_after
kept_near k [] x p q o s m = absurd m
kept_near k (y ∷ ys) x p q o s (inl e) =
    subst (λ (z : Float). Near z (k ∷ kept_after k (y ∷ ys))) (sym e)
    (split (y ⊖ k ≺ hair) (λ t. inl (near_below y k q.0 p o.0 t)) (λ t. rw t (inr (inl (near_self y q.0)))))
kept_near k (y ∷ ys) x p q o s (inr m) =
    let a = kept_near k ys x p q.1 o.1 s.1 m in
    let b = kept_near y ys x q.0 q.1 s.0 s.1 m in
    split (y ⊖ k ≺ hair) (λ t. rw t a) (λ t. rw t (inr b))

thinned_near : (xs : List Float) (x : Float) → Pos xs → Ordered xs → Mem x xs → Near x (thinned xs)
unfolding thinned
thinned_near [] x p s m = absurd m
thinned_near (y ∷ ys) x p s (inl e) = inl (subst (λ (z : Float). near y z ≡ true) (sym e) (near_self y p.0))
thinned_near (y ∷ ys) x p s (inr m) = kept_near y ys x p.0 p.1 s.0 s.1 m

pub placed : (xs : List Float) (x : Float) → Pos xs → Mem x xs → place (axis xs) x < length (axis xs)
placed xs x p m = place_lt x (axis xs) (thinned_near _ x (sort_pos xs p) (sort_ordered xs p) (sort_mem x xs m))

-- ---- axis values are above one another, and far from one another
above : (k y : Float) → T (positive k) → T (positive y) → Under k y → y ⊖ k ≺ hair ≡ false → k ≺ y ≡ true
above k y p q h n = split (k ≺ y) (λ t. t) (λ t. clash (no_gap y k q p h (under_of_not_lt k y p q t)) n)

kept_spaced : (k : Float) (xs : List Float) → T (positive k) → Pos xs → Over k xs → Ordered xs → SpacedAfter k (kept_after k xs)
unfolding kept_after
kept_spaced k [] p q o s = tt
kept_spaced k (y ∷ ys) p q o s =
    let a = kept_spaced k ys p q.1 o.1 s.1 in
    let b = kept_spaced y ys q.0 q.1 s.0 s.1 in
    split (y ⊖ k ≺ hair) (λ t. rw t a) (λ t. rw t (above k y p q.0 o.0 t, t, b))

thinned_spaced : (xs : List Float) → Pos xs → Ordered xs → Spaced (thinned xs)
unfolding thinned
thinned_spaced [] p s = tt
thinned_spaced (x ∷ xs) p s = kept_spaced x xs p.0 p.1 s.0 s.1

pub axis_spaced : (xs : List Float) → Pos xs → Spaced (axis xs)
axis_spaced xs p = thinned_spaced _ (sort_pos xs p) (sort_ordered xs p)

abbrev Far : Float → List Float → Type 0
Far a [] = Unit {0}
Far a (y ∷ ys) = (near a y ≡ false) × Far a ys

abbrev Spread : List Float → Type 0
Spread [] = Unit {0}
Spread (a ∷ rest) = Far a rest × Spread rest

kept_far : (j k : Float) (xs : List Float) → T (positive j) → T (positive k) → Pos xs → Under j k → Over k xs → Ordered xs → Far j (kept_after k xs)
unfolding kept_after
kept_far j k [] p q r h o s = tt
kept_far j k (y ∷ ys) p q r h o s =
    let a = kept_far j k ys p q r.1 h o.1 s.1 in
    let b = kept_far j y ys p r.0 r.1 (under_trans j k y h o.0) s.0 s.1 in
    split (y ⊖ k ≺ hair) (λ t. rw t a) (λ t. rw t (far j k y p q r.0 h o.0 t, b))

kept_spread : (k : Float) (xs : List Float) → T (positive k) → Pos xs → Over k xs → Ordered xs → Spread (kept_after k xs)
unfolding kept_after
kept_spread k [] p q o s = tt
kept_spread k (y ∷ ys) p q o s =
    let a = kept_spread k ys p q.1 o.1 s.1 in
    let b = kept_spread y ys q.0 q.1 s.0 s.1 in
    let f = kept_far y y ys q.0 q.0 q.1 (omega arith) s.0 s.1 in
    split (y ⊖ k ≺ hair) (λ t. rw t a) (λ t. rw t (f, b))

kept_pos : (k : Float) (xs : List Float) → Pos xs → Pos (kept_after k xs)
unfolding kept_after
kept_pos k [] p = tt
kept_pos k (y ∷ ys) p =
    let a = kept_pos k ys p.1 in
    let b = kept_pos y ys p.1 in
    split (y ⊖ k ≺ hair) (λ t. rw t a) (λ t. rw t (p.0, b))

thinned_spread : (xs : List Float) → Pos xs → Ordered xs → Spread (thinned xs) × Pos (thinned xs)
unfolding thinned
thinned_spread [] p s = (tt, tt)
thinned_spread (x ∷ xs) p s =
    ((kept_far x x xs p.0 p.0 p.1 (omega arith) s.0 s.1, kept_spread x xs p.0 p.1 s.0 s.1), (p.0, kept_pos x xs p.1))

pub axis_pos : (xs : List Float) → Pos xs → Pos (axis xs)
axis_pos xs p = (thinned_spread _ (sort_pos xs p) (sort_ordered xs p)).1

kept_over : (k : Float) (xs : List Float) (j : Float) → Over j xs → Over j (kept_after k xs)
unfolding kept_after
kept_over k [] j o = tt
kept_over k (y ∷ ys) j o =
    let a = kept_over k ys j o.1 in
    let b = kept_over y ys j o.1 in
    split (y ⊖ k ≺ hair) (λ t. rw t a) (λ t. rw t (o.0, b))

kept_ordered : (k : Float) (xs : List Float) → Ordered xs → Ordered (kept_after k xs)
unfolding kept_after
kept_ordered k [] s = tt
kept_ordered k (y ∷ ys) s =
    let a = kept_ordered k ys s.1 in
    let b = kept_ordered y ys s.1 in
    split (y ⊖ k ≺ hair) (λ t. rw t a) (λ t. rw t (kept_over y ys y s.0, b))

pub thinned_ordered : (xs : List Float) → Ordered xs → Ordered (thinned xs)
unfolding thinned
thinned_ordered [] s = tt
thinned_ordered (x ∷ xs) s = (kept_over x xs x s.0, kept_ordered x xs s.1)

pub axis_ascends : (xs : List Float) → Pos xs → Ascending (axis xs)
axis_ascends xs p = record {
  positives = axis_pos xs p;
  sorted = sorted_of (axis xs) (axis_pos xs p) (thinned_ordered _ (sort_ordered xs p));
}

-- ---- an axis value's place is its own
far_at : (a : Float) (l : List Float) (i : ℕ) (d : Float) → Far a l → i < length l → near a (get_or l i d) ≡ false
far_at a [] i d f h = absurd (omega arith)
far_at a (y ∷ ys) zero d f h = f.0
far_at a (y ∷ ys) (suc i) d f h = far_at a ys i d f.1 (le_of_suc-le-suc h)

own_place : (l : List Float) (i : ℕ) (d : Float) → Spread l → Pos l → i < length l → place l (get_or l i d) ≡ i
unfolding first_where
own_place [] i d s p h = absurd (omega arith)
own_place (a ∷ rest) zero d s p h = rw (near_self a p.0)
own_place (a ∷ rest) (suc i) d s p h =
    let r = own_place rest i d s.1 p.1 (le_of_suc-le-suc h) in
    rw (far_at a rest i d s.0 (le_of_suc-le-suc h)) (ap suc r)

pub axis_place : (xs : List Float) (i : ℕ) (d : Float) → Pos xs → i < length (axis xs) → place (axis xs) (get_or (axis xs) i d) ≡ i
axis_place xs i d p h = let s = thinned_spread _ (sort_pos xs p) (sort_ordered xs p) in own_place (axis xs) i d s.0 s.1 h

-- ---- an axis value is one of the values
mem_kept : (z k : Float) (xs : List Float) → Mem z (kept_after k xs) → Mem z xs
unfolding kept_after
mem_kept z k [] m = absurd m
mem_kept z k (y ∷ ys) m =
    let a = mem_kept z k ys in
    let b = mem_kept z y ys in
    split (y ⊖ k ≺ hair) (λ t. inr (a (rw t at m))) (λ t. elim (rw t at m) [ inl e ↦ inl e | inr n ↦ inr (b n) ])

mem_thinned : (z : Float) (xs : List Float) → Mem z (thinned xs) → Mem z xs
unfolding thinned
mem_thinned z [] m = absurd m
mem_thinned z (x ∷ xs) (inl e) = inl e
mem_thinned z (x ∷ xs) (inr m) = inr (mem_kept z x xs m)

mem_get_d : (l : List Float) (i : ℕ) (d : Float) → i < length l → Mem (get_or l i d) l
mem_get_d [] i d h = absurd (omega arith)
mem_get_d (x ∷ xs) zero d h = inl refl
mem_get_d (x ∷ xs) (suc i) d h = inr (mem_get_d xs i d (le_of_suc-le-suc h))

pub axis_member : (xs : List Float) (i : ℕ) (d : Float) → i < length (axis xs) → Mem (get_or (axis xs) i d) xs
axis_member xs i d h = mem_sort _ xs (mem_thinned _ _ (mem_get_d (axis xs) i d h))

-- ---- as a read checks it: an axis of values is finite and strictly ascending
spaced_ascends : (x : Float) (l : List Float) → Pos l → SpacedAfter x l → ascends x l ≡ true
unfolding ascends
spaced_ascends x [] p s = refl
spaced_ascends x (y ∷ ys) p s = rw (is_true (finite y) (positive-finite y p.0), s.0) (spaced_ascends y ys p.1 s.2)

spaced_axis : (l : List Float) → 0 < length l → Pos l → Spaced l → is_axis l ≡ true
unfolding is_axis
spaced_axis [] h p s = absurd (omega arith)
spaced_axis (x ∷ xs) h p s = rw (is_true (finite x) (positive-finite x p.0)) (spaced_ascends x xs p.1 s)

pub axis_axis : (xs : List Float) (x : Float) → Pos xs → Mem x xs → is_axis (axis xs) ≡ true
axis_axis xs x p m = spaced_axis (axis xs) (omega (arith, placed xs x p m)) (axis_pos xs p) (axis_spaced xs p)
