-- Two values of one place on an axis are less than a hair apart: both lie from the axis value that takes them up to less than a hair above it.
-- Assumes nothing.
use Prim.Native.Nat.{ℕ}
use mathlib.Core.Path.{◌≡◌, refl, sym, ap, subst, ◌∙◌}
use mathlib.Core.Bool.{true}
use mathlib.Core.Logic.{◌⊎◌, inl, inr}
use mathlib.Core.List.Memᴰ
use mathlib.Core.List.{List, [], ◌∷◌, Memᴰ}
use native.Mathlib.Omega.{arith}
use lib.Dec.{T}
use lib.ListN.{get_or}
use lib.Ieee.{Float, nan, lt, sub, round, of_bits, to_bits}
use lib.Ieee.Positive.{positive}
use Rattle.floats.specs.Operators.{◌⊖◌, ◌≺◌}
use Rattle.floats.specs.Values.{magnitude}
use Rattle.floats.proofs.Tests.{clash, split}
use Rattle.floats.proofs.Order.{Under, under_trans, under_of_not_lt, sub_either}
use Rattle.grid.specs.Search.{first_where}
use Rattle.chart.specs.Quotes.{Quote, all_in_range}
use Rattle.chart.specs.Axis.{hair, insert, sorted_into, sort, kept_after, thinned, axis, near, place}
use Rattle.chart.specs.Steps.{Pos}
use Rattle.chart.specs.Sharing.{taker, Sharing, Shared, ByTheTray, ToTheHair}
use Rattle.chart.proofs.Ordered.{Mem, Over, Ordered, sort_pos, sort_ordered, sort_mem, not_lt_of_under}
use Rattle.chart.proofs.Spread.{near_self, near_below, far, thinned_ordered, axis_pos}
use Rattle.chart.proofs.Housing.{strikes, expiries, strikes_pos, expiries_pos}

-- some value of the list is not above x and takes it
abbrev Below : Float → List Float → Type 0
Below x [] = ⊥
Below x (a ∷ rest) = ((near a x ≡ true) × Under a x) ⊎ Below x rest

-- ---- of a value that is kept or dropped there is one
kept_below : (k : Float) (xs : List Float) (x : Float) → T (positive k) → Pos xs → Over k xs → Ordered xs → Mem x xs → Below x (k ∷ kept_after k xs)
unfolding kept_after
kept_below k [] x p q o s m = absurd m
kept_below k (y ∷ ys) x p q o s (inl e) =
    subst (λ (z : Float). Below z (k ∷ kept_after k (y ∷ ys))) (sym e)
    (split (y ⊖ k ≺ hair) (λ t. inl (near_below y k q.0 p o.0 t, o.0)) (λ t. rw t (inr (inl (near_self y q.0, omega arith)))))
kept_below k (y ∷ ys) x p q o s (inr m) =
    let a = kept_below k ys x p q.1 o.1 s.1 m in
    let b = kept_below y ys x q.0 q.1 s.0 s.1 m in
    split (y ⊖ k ≺ hair) (λ t. rw t a) (λ t. rw t (inr b))

thinned_below : (xs : List Float) (x : Float) → Pos xs → Ordered xs → Mem x xs → Below x (thinned xs)
unfolding thinned
thinned_below [] x p s m = absurd m
thinned_below (y ∷ ys) x p s (inl e) =
    subst (λ (z : Float). Below z (thinned (y ∷ ys))) (sym e) (inl (near_self y p.0, omega arith))
thinned_below (y ∷ ys) x p s (inr m) = kept_below y ys x p.0 p.1 s.0 s.1 m

-- ---- and the first one that takes x is not above it either, since the list ascends
under_some : (a x : Float) (l : List Float) → Over a l → Below x l → Under a x
under_some a x [] o b = absurd b
under_some a x (y ∷ ys) o (inl n) = under_trans a y x o.0 n.1
under_some a x (y ∷ ys) o (inr b) = under_some a x ys o.1 b

first_under : (x : Float) (l : List Float) → Ordered l → Below x l → (near (get_or l (place l x) nan) x ≡ true) × Under (get_or l (place l x) nan) x
unfolding first_where
first_under x [] s b = absurd b
first_under x (a ∷ rest) s b =
    split (near a x)
    (λ t. rw t (t, elim b [ inl n ↦ n.1 | inr n ↦ under_some a x rest s.0 n ]))
    (λ t. rw t (elim b [ inl n ↦ absurd (clash n.0 t) | inr n ↦ first_under x rest s.1 n ]))

below_pos : (l : List Float) (x : Float) → Pos l → Below x l → T (positive (get_or l (place l x) nan))
unfolding first_where
below_pos [] x p b = absurd b
below_pos (a ∷ rest) x p b =
    split (near a x) (λ t. rw t p.0) (λ t. rw t (elim b [ inl n ↦ absurd (clash n.0 t) | inr n ↦ below_pos rest x p.1 n ]))

-- ---- of the values of an axis
mem_of : (x : Float) (xs : List Float) → Memᴰ x xs → Mem x xs
mem_of x [] m = absurd (Memᴰ.not-nil m)
mem_of x (y ∷ ys) m = elim (Memᴰ.cases_cons m) [ inl e ↦ inl e | inr n ↦ inr (mem_of x ys n) ]

pos_mem : (x : Float) (xs : List Float) → Pos xs → Mem x xs → T (positive x)
pos_mem x [] p m = absurd m
pos_mem x (y ∷ ys) p (inl e) = subst (λ (z : Float). T (positive z)) (sym e) p.0
pos_mem x (y ∷ ys) p (inr m) = pos_mem x ys p.1 m

module _ (xs : List Float) (p : Pos xs) where
  some_below : (x : Float) → Mem x xs → Below x (axis xs)
  some_below x m = thinned_below (sort xs) x (sort_pos xs p) (sort_ordered xs p) (sort_mem x xs m)

  taken : (x : Float) → Mem x xs → (near (taker xs x) x ≡ true) × Under (taker xs x) x
  taken x m = first_under x (axis xs) (thinned_ordered (sort xs) (sort_ordered xs p)) (some_below x m)

  taker_pos : (x : Float) → Mem x xs → T (positive (taker xs x))
  taker_pos x m = below_pos (axis xs) x (axis_pos xs p) (some_below x m)

  -- y is taken by x's axis value, so that it is not a hair above x
  together : (x y : Float) → Mem x xs → Mem y xs → Under x y → place (axis xs) x ≡ place (axis xs) y → y ⊖ x ≺ hair ≡ true
  together x y m n u e =
      let a = taker xs x in
      let t : near a y ≡ true = subst (λ (i : ℕ). near (get_or (axis xs) i nan) y ≡ true) (sym e) (taken y n).0 in
      split (y ⊖ x ≺ hair) (λ h. h) (λ h. clash t (far a x y (taker_pos x m) (pos_mem x xs p m) (pos_mem y xs p n) (taken x m).1 u h))

  pub sharing : Sharing xs
  unfolding near
  sharing =
      record {
        not_above_lem = λ x m. not_lt_of_under (taker xs x) x (taker_pos x (mem_of x xs m)) (pos_mem x xs p (mem_of x xs m)) (taken x (mem_of x xs m)).1;
        under_a_hair = λ x m.
            let n = mem_of x xs m in
            sym (ap (λ (z : Float). z ≺ hair) (sub_either x (taker xs x) (pos_mem x xs p n) (taker_pos x n) (taken x n).1)) ∙ (taken x n).0;
        never_far = λ x y m n h e.
            let j = mem_of x xs m in
            let k = mem_of y xs n in
            together x y j k (under_of_not_lt y x (pos_mem y xs p k) (pos_mem x xs p j) h) e;
      }

-- ---- of quotes in range, by strike and by expiry
pub shared : (qs : List Quote) → all_in_range qs ≡ true → Shared qs
shared qs h = record { columns = sharing (strikes qs) (strikes_pos qs h); rows = sharing (expiries qs) (expiries_pos qs h) }

-- ---- and what is left to the rest of the tray, by computation
pub by_the_tray : ByTheTray
unfolding first_where near magnitude thinned sorted_into insert kept_after lt sub round
by_the_tray = record { two_alone = refl; beside_a_hundred = refl }

pub to_the_hair : ToTheHair
unfolding first_where near magnitude thinned sorted_into insert kept_after lt sub round of_bits to_bits
to_the_hair = record { shares = refl; parts = refl }
