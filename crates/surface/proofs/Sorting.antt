-- Values above 0 that stand in order are the sort of what they are, whoever sorted them: of two that test equal both are one. Assumes nothing.
use Rattle.std.specs.List.{All, sum_by}
use Rattle.std.specs.List.Sorted.{IsPermutation, IsSortedBy}
use Rattle.std.specs.Ordering.{is_lt, nan_last_cmp}
use Rattle.std.proofs.lemmas.List.Sums.{sum_by-cons}
use Rattle.std.proofs.lemmas.List.Sorted.{IsPermutation-refl, IsPermutation-sym, IsPermutation-trans, IsPermutation-middle, IsPermutation-append_left}
use Rattle.std.proofs.lemmas.List.Sorted.{All-permutation, sum_by-IsPermutation}
use Prim.Native.Nat.{ℕ, suc, ◌<◌}
use mathlib.Core.Path.{◌≡◌, refl, sym, ap, ◌∙◌}
use mathlib.Core.Bool.{true, false, cond}
use mathlib.Core.List.{List, [], ◌∷◌, ◌++◌, append-nil}
use native.Mathlib.Nat.{le_antisymm}
use native.Mathlib.Numerals.{add-one}
use native.Mathlib.Omega.{arith}
use lib.Dec.{T}
use lib.ListN.{length, take, drop, get_or}
use Rattle.std.proofs.lemmas.List.{take-append-drop, get_or_default}
use lib.Ieee.{Float, nan, inf, fin, binary64, fits, is_nan}
use lib.Ieee.Positive.{positive}
use Rattle.floats.specs.Operators.{◌≺◌}
use Rattle.floats.proofs.Above.{written_once}
use Rattle.floats.proofs.Order.{Under, under_trans, under_of_not_lt}
use Rattle.floats.proofs.Tests.{split, clash}
use Rattle.grid.specs.Search.{AllPass}
use Rattle.chart.specs.Axis.{insert, sorted_into, sort}
use Rattle.chart.specs.Steps.{Pos}
use Rattle.chart.proofs.Halves.{above_rises}
use Rattle.chart.proofs.Ordered.{Over, Ordered, sorted_of, not_lt_of_under, sort_ordered}
use Rattle.chart.proofs.Sorting.{above, insert_split}

-- above 0, and written as an f64 is
abbrev pub Fine : Float → Type 0
Fine x = T (positive x) × T (fits binary64 x)

-- what a slice of them says
pub fine_of : (xs : List Float) → All (λ x. T (positive x)) xs → ((k : ℕ) → T (fits binary64 (get_or xs k nan))) → All Fine xs
fine_of xs p f k d h = (p k d h, rw (get_or_default xs k d nan h) (f k))

pos_of : (xs : List Float) → All Fine xs → Pos xs
pos_of [] a = tt
pos_of (x ∷ xs) a = ((a 0 nan (omega arith)).0, pos_of xs (λ k d h. a (suc k) d (omega arith)))

-- ---- the definition's sort moves values alone
insert_moves : (x : Float) (ys : List Float) → IsPermutation (x ∷ ys) (insert x ys)
insert_moves x ys =
    let front = take (above x ys) ys in
    let back = drop (above x ys) ys in
    let m = IsPermutation-sym (front ++ x ∷ back) (x ∷ (front ++ back)) (IsPermutation-middle front x back) in
    rw (insert_split x ys) (rw (take-append-drop (above x ys) ys) at m)

into_moves : (l xs : List Float) → IsPermutation (l ++ xs) (sorted_into l xs)
unfolding sorted_into
into_moves l [] = rw (append-nil l) (IsPermutation-refl l)
into_moves l (x ∷ xs) =
    IsPermutation-trans (l ++ x ∷ xs) (x ∷ (l ++ xs)) (sorted_into (insert x l) xs) (IsPermutation-middle l x xs)
    (IsPermutation-trans (x ∷ (l ++ xs)) (insert x l ++ xs) (sorted_into (insert x l) xs)
    (IsPermutation-append_left xs (x ∷ l) (insert x l) (insert_moves x l)) (into_moves (insert x l) xs))

-- ---- two that are not above one another are one
same : (x w : Float) → Fine x → Fine w → Under x w → Under w x → x ≡ w
same nan w f g h k = absurd f.0
same (inf s) w f g h k = absurd f.0
same (fin true m e) w f g h k = absurd f.0
same (fin false m e) nan f g h k = absurd g.0
same (fin false m e) (inf t) f g h k = absurd g.0
same (fin false m e) (fin true n d) f g h k = absurd g.0
same (fin false m e) (fin false n d) f g h k = written_once false m e n d f.1 g.1 (le_antisymm h k)

-- ---- lists in order that hold the same are one: the first of each is not above the first of the other
module _ (x : Float) where
  abbrev not_above : Float → ℕ
  not_above z = cond (x ≺ z) 0 1

  all_above : (zs : List Float) → AllPass (λ z. x ≺ z) zs → sum_by not_above zs ≡ 0
  all_above [] a = refl
  all_above (z ∷ zs) a = omega (arith, sum_by-cons not_above z zs, ap (λ b. cond {A = ℕ} b 0 1) a.0, all_above zs a.1)

  first_under : (us : List Float) (w : Float) (ws : List Float) → T (positive x) → Pos (w ∷ ws) → Ordered (w ∷ ws)
      → sum_by not_above (x ∷ us) ≡ sum_by not_above (w ∷ ws) → Under w x
  first_under us w ws p q o s =
      split (x ≺ w)
      (λ t.
      let later = (above_rises x p (w ∷ ws) (record { positives = q; sorted = sorted_of (w ∷ ws) q o })).0 t in
      let none = all_above (w ∷ ws) (t, later) in
      let one : not_above x ≡ 1 = ap (λ b. cond b 0 1) (not_lt_of_under x x p p (omega arith)) in
      absurd (omega (arith, sum_by-cons not_above x us, one, s, none)))
      (λ t. under_of_not_lt x w p q.0 t)

one_order : (us ws : List Float) → All Fine us → All Fine ws → Ordered us → Ordered ws
    → ((f : Float → ℕ) → sum_by f us ≡ sum_by f ws) → us ≡ ws
one_order [] [] a b o q s = refl
one_order [] (w ∷ ws) a b o q s = absurd (omega (arith, s (λ z. 1), sum_by-cons (λ z. 1) w ws))
one_order (x ∷ us) [] a b o q s = absurd (omega (arith, s (λ z. 1), sum_by-cons (λ z. 1) x us))
one_order (x ∷ us) (w ∷ ws) a b o q s =
    let f = a 0 nan (omega arith) in
    let g = b 0 nan (omega arith) in
    let h = first_under x us w ws f.0 (pos_of (w ∷ ws) b) q (s (not_above x)) in
    let k = first_under w ws x us g.0 (pos_of (x ∷ us) a) o (sym (s (not_above w))) in
    let e = same x w f g k h in
    let rest = one_order us ws (λ i d l. a (suc i) d (omega arith)) (λ i d l. b (suc i) d (omega arith)) o.1 q.1
    (λ n. let c = sym (sum_by-cons n x us) ∙ s n ∙ sum_by-cons n w ws in omega (arith, c, ap n e)) in
    λ i. e i ∷ rest i

-- ---- from neighbours in order
over_all : (x y : Float) (ys : List Float) → Under x y → Over y ys → Over x ys
over_all x y [] u o = tt
over_all x y (z ∷ zs) u o = (under_trans x y z u o.0, over_all x y zs u o.1)

ordered : (xs : List Float) → Pos xs → ((k : ℕ) → suc k < length xs → get_or xs (suc k) nan ≺ get_or xs k nan ≡ false) → Ordered xs
ordered [] p h = tt
ordered (x ∷ []) p h = (tt, tt)
ordered (x ∷ y ∷ ys) p h =
    let r = ordered (y ∷ ys) p.1 (λ k l. h (suc k) (omega arith)) in
    let u = under_of_not_lt y x p.1.0 p.0 (h 0 (omega arith)) in
    ((u, over_all x y ys u r.0), r)

-- what is not less in the order of std's `OrderedFloat` is not below
not_below : (x y : Float) → T (positive x) → T (positive y) → is_lt (nan_last_cmp x y) ≡ false → x ≺ y ≡ false
unfolding is_nan
not_below nan y p q h = absurd p
not_below (inf s) y p q h = absurd p
not_below (fin s m e) nan p q h = absurd q
not_below (fin s m e) (inf t) p q h = absurd q
not_below (fin s m e) (fin t n d) p q h = split (fin s m e ≺ fin t n d) (λ l. clash refl (rw l at h)) (λ l. l)

pub is_sort : (xs ys : List Float) → All Fine xs → IsPermutation xs ys → IsSortedBy (λ x y. is_lt (nan_last_cmp x y)) ys → ys ≡ sort xs
is_sort xs ys a m h =
    let n = into_moves [] xs in
    let b = All-permutation Fine xs ys m a in
    let up : (k : ℕ) → suc k < length ys → get_or ys (suc k) nan ≺ get_or ys k nan ≡ false = λ k l.
    not_below (get_or ys (suc k) nan) (get_or ys k nan) (b (suc k) nan l).0 (b k nan (omega arith)).0 (rw add-one at (h k nan (omega arith) (omega arith))) in
    one_order ys (sort xs) b (All-permutation Fine xs (sort xs) n a) (ordered ys (pos_of ys b) up) (sort_ordered xs (pos_of xs a))
    (λ f. sum_by-IsPermutation f xs ys m ∙ sym (sum_by-IsPermutation f xs (sort xs) n))
