-- A value that stands in a sorted list already need not be inserted again: no axis is changed by it, whatever is inserted later. Assumes nothing.
use Prim.Native.Nat.{ℕ, zero, suc, ◌-◌, ◌≤◌, ◌<◌}
use mathlib.Core.Path.{◌≡◌, refl, sym, ap, ◌∙◌}
use mathlib.Core.Bool.{true}
use mathlib.Core.List.{List, [], ◌∷◌, ◌++◌}
use native.Mathlib.Nat.{lt_irrefl}
use native.Mathlib.Omega.{arith}
use lib.Dec.{T}
use lib.ListN.{length, take, get_or}
use lib.Seq.{get_or-take}
use lib.Ieee.{Float, nan}
use lib.Ieee.Positive.{positive}
use Rattle.floats.specs.Operators.{◌≺◌, ◌⊖◌}
use Rattle.grid.specs.Search.{first_where}
use Rattle.chart.specs.Axis.{insert, sorted_into, kept_after, thinned, hair}
use Rattle.chart.specs.Steps.{Alike}
use Rattle.floats.proofs.Tests.{split}
use Rattle.chart.proofs.Sorting.{above, insert_split, place_most}
use Rattle.chart.proofs.Spread.{no_gap}

-- the first list has one x more than the second, beside an x of it
data Doubled (x : Float) : List Float → List Float → Type 0 where
  here : {ws : List Float} → Doubled x (x ∷ x ∷ ws) (x ∷ ws)
  there : {y : Float} {us ws : List Float} → Doubled x us ws → Doubled x (y ∷ us) (y ∷ ws)

module _ (x : Float) where
  insert_doubled : (z : Float) {us ws : List Float} → Doubled x us ws → Doubled x (insert z us) (insert z ws)
  unfolding insert
  insert_doubled z here = split (z ≺ x) (λ e. rw e (there here)) (λ e. rw e here)
  insert_doubled z (there {y} d) = split (z ≺ y) (λ e. rw e (there (there d))) (λ e. rw e (there (insert_doubled z d)))

  module _ (h : x ⊖ x ≺ hair ≡ true) where
    kept_doubled : (last : Float) {us ws : List Float} → Doubled x us ws → kept_after last us ≡ kept_after last ws
    unfolding kept_after
    kept_doubled last here = split (x ⊖ last ≺ hair) (λ e. rw e) (λ e. rw (e, h))
    kept_doubled last (there {y} d) =
        split (y ⊖ last ≺ hair) (λ e. rw e (kept_doubled last d)) (λ e. rw e (ap (λ (l : List Float). y ∷ l) (kept_doubled y d)))

    thinned_doubled : {us ws : List Float} → Doubled x us ws → thinned us ≡ thinned ws
    unfolding thinned kept_after
    thinned_doubled here = rw h
    thinned_doubled (there {y} d) = ap (λ (l : List Float). y ∷ l) (kept_doubled y d)

    doubled_alike : {us ws : List Float} → Doubled x us ws → Alike us ws
    unfolding sorted_into
    doubled_alike d [] = thinned_doubled d
    doubled_alike {us = us} {ws = ws} d (z ∷ zs) = doubled_alike {us = insert z us} {ws = insert z ws} (insert_doubled z d) zs

  -- the value before the place of x is x: it stands there already
  standing : (ys : List Float) → 0 < above x ys → get_or ys (above x ys - 1) nan ≡ x → Doubled x (insert x ys) ys
  unfolding first_where insert
  standing [] = λ h k. absurd (lt_irrefl 0 h)
  standing (y ∷ ys) = split (x ≺ y) (λ e. rw e (λ h k. absurd (lt_irrefl 0 h))) (λ e. rw e (λ h k. go (above x ys) refl k (standing ys)))
    where
      go : (p : ℕ) → above x ys ≡ p → get_or (y ∷ ys) (suc (above x ys) - 1) nan ≡ x
          → (0 < above x ys → get_or ys (above x ys - 1) nan ≡ x → Doubled x (insert x ys) ys) → Doubled x (y ∷ insert x ys) (y ∷ ys)
      go zero e k r =
          let z : suc (above x ys) - 1 ≡ 0 = omega arith in
          let q : y ≡ x = sym (ap (λ (n : ℕ). get_or (y ∷ ys) n nan) z) ∙ k in
          rw (insert_split x ys, e, q) here
      go (suc p) e k r =
          let z : suc (above x ys) - 1 ≡ suc (above x ys - 1) = omega arith in
          there (r (omega arith) (sym (ap (λ (n : ℕ). get_or (y ∷ ys) n nan) z) ∙ k))

-- of the first n values of a
pub standing_alike : (a : List Float) (n p : ℕ) (x : Float) → T (positive x) → n ≤ length a → p ≡ above x (take n a) → 0 < p → get_or a (p - 1) nan ≡ x
    → Alike (take n a) (insert x (take n a))
standing_alike a n p x P h e q s zs =
    let m : p - 1 < n = omega (arith, place_most a n p x h e) in
    let k : get_or (take n a) (p - 1) nan ≡ x = get_or-take n a (p - 1) nan m ∙ s in
    sym (doubled_alike x (no_gap x x P P (omega arith) (omega arith)) (standing x (take n a) (rw e at q) (rw e at k)) zs)

-- a value that comes again right behind itself: the last of those before it is x, and more may have been inserted before them
again : (x : Float) (ys : List Float) → Doubled x (insert x (insert x ys)) (insert x ys)
unfolding insert
again x [] = split (x ≺ x) (λ e. rw e here) (λ e. rw e here)
again x (y ∷ ys) =
    split (x ≺ y) (λ e. rw e (split (x ≺ x) (λ f. rw f here) (λ f. rw (f, e) here))) (λ e. rw e (rw e (there (again x ys))))

pub repeated : (before us : List Float) (x : Float) (rest : List Float) → T (positive x) → 0 < length us → get_or us (length us - 1) nan ≡ x
    → thinned (sorted_into before (us ++ x ∷ rest)) ≡ thinned (sorted_into before (us ++ rest))
unfolding sorted_into
repeated before [] x rest p h e = absurd (lt_irrefl 0 h)
repeated before (u ∷ []) x rest p h e = rw e (doubled_alike x (no_gap x x p p (omega arith) (omega arith)) (again x before) rest)
repeated before (u ∷ w ∷ us) x rest p h e =
    let z : length (u ∷ w ∷ us) - 1 ≡ suc (length (w ∷ us) - 1) = omega arith in
    repeated (insert u before) (w ∷ us) x rest p (omega arith) (sym (ap (λ (n : ℕ). get_or (u ∷ w ∷ us) n nan) z) ∙ e)
