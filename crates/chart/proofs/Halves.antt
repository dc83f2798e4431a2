-- The searches by halves: on values that ascend, those above x stand together at the end, and so do those that take x or are above it; the first of
-- these is the first that takes x, where there is one. Assumes nothing.
use Prim.Native.Nat.{suc, ◌*◌, ◌<◌}
use mathlib.Core.Path.{◌≡◌, refl, sym, ap, ◌∙◌}
use mathlib.Core.Bool.{true, false}
use mathlib.Core.List.{List, [], ◌∷◌}
use native.Mathlib.Nat.{lt_irrefl, lt_of_lt_of_le, le_of_suc-le-suc, le-add_left, mul-pos}
use lib.Dec.{T, lit<}
use lib.ListN.{length}
use lib.Ieee.{Float, nan, inf, fin, up, down, lt, round}
use lib.Ieee.Fits.{down_pos}
use lib.Ieee.Positive.{positive, num, den}
use borrow.Author.Tests.{lt-ltb}
use Rattle.floats.specs.Operators.{◌⊖◌, ◌≺◌, ◌≼◌}
use Rattle.floats.specs.Values.{magnitude, negative}
use Rattle.floats.proofs.Tests.{split, clash}
use Rattle.floats.proofs.Order.{Under, under_trans, under_of_lt, under_of_not_lt, sub_down, sub_either, sub_mono}
use Rattle.floats.proofs.Rounding.{magnitude_round}
use Rattle.floats.proofs.Bounds.{sub_negative}
use Rattle.grid.specs.Search.{first_where, AllPass, Rising}
use Rattle.chart.specs.Axis.{hair, near, place}
use Rattle.chart.specs.Steps.{Pos, Ascending, reaches, OnAxis}
use Rattle.chart.proofs.Ordered.{Over, Ordered, ordered_of, not_lt_of_under}
use Rattle.chart.proofs.Spread.{no_gap, under_hair, far}

-- a difference with its sign set is under a hair
negative_under : (z : Float) → negative z ≡ true → z ≺ hair ≡ true
unfolding negative lt round
negative_under nan h = clash h refl
negative_under (inf true) h = refl
negative_under (inf false) h = clash h refl
negative_under (fin true m e) h = lt-ltb 0 _ (lt_of_lt_of_le (mul-pos (lit< tt) (down_pos e)) (le-add_left (num hair * down e) (m * up e * den hair)))
negative_under (fin false m e) h = clash h refl

module _ (x : Float) (p : T (positive x)) where
  -- ---- not above x, to reach x is to take it; above x, every value does
  reach_below : (a : Float) → T (positive a) → Under a x → near a x ≡ reaches a x
  unfolding near
  reach_below a q u = ap (λ (z : Float). z ≺ hair) (sub_either x a p q u)

  reach_above : (a : Float) → T (positive a) → Under x a → reaches a x ≡ true
  reach_above a q u =
      split (x ≺ a) (λ t. negative_under (x ⊖ a) (sub_negative x a p q t)) (λ t. no_gap x a p q (under_of_not_lt x a p q t) u)

  -- ---- what holds of a value holds of every later one
  still_above : (y z : Float) → T (positive y) → T (positive z) → Under y z → x ≺ y ≡ true → x ≺ z ≡ true
  still_above y z q r u h =
      split (x ≺ z) (λ t. t)
      (λ t. clash h (not_lt_of_under y x q p (under_trans y z x u (under_of_not_lt x z p r t))))

  still_reaches : (y z : Float) → T (positive y) → T (positive z) → Under y z → reaches y x ≡ true → reaches z x ≡ true
  still_reaches y z q r u h =
      split (x ≺ z) (λ t. reach_above z r (under_of_lt x z p r t))
      (λ t. let v = under_of_not_lt x z p r t in
      split (x ⊖ z ≺ hair) (λ s. s) (λ s. clash h (sym (reach_below y q (under_trans y z x u v)) ∙ far y z x q r p u v s)))

  all_above : (y : Float) (zs : List Float) → T (positive y) → Pos zs → Over y zs → x ≺ y ≡ true → AllPass (λ a. x ≺ a) zs
  all_above y [] q r o h = tt
  all_above y (z ∷ zs) q r o h = (still_above y z q r.0 o.0 h, all_above y zs q r.1 o.1 h)

  all_reach : (y : Float) (zs : List Float) → T (positive y) → Pos zs → Over y zs → reaches y x ≡ true → AllPass (λ a. reaches a x) zs
  all_reach y [] q r o h = tt
  all_reach y (z ∷ zs) q r o h = (still_reaches y z q r.0 o.0 h, all_reach y zs q r.1 o.1 h)

  above_go : (ys : List Float) → Pos ys → Ordered ys → Rising (λ a. x ≺ a) ys
  above_go [] q o = tt
  above_go (y ∷ ys) q o = (all_above y ys q.0 q.1 o.0, above_go ys q.1 o.1)

  reach_go : (ys : List Float) → Pos ys → Ordered ys → Rising (λ a. reaches a x) ys
  reach_go [] q o = tt
  reach_go (y ∷ ys) q o = (all_reach y ys q.0 q.1 o.0, reach_go ys q.1 o.1)

  pub above_rises : (ys : List Float) → Ascending ys → Rising (λ a. x ≺ a) ys
  above_rises ys a = above_go ys a.positives (ordered_of ys a.positives a.sorted)

  pub reach_rises : (ys : List Float) → Ascending ys → Rising (λ a. reaches a x) ys
  reach_rises ys a = reach_go ys a.positives (ordered_of ys a.positives a.sorted)

  -- ---- past a value above x that does not take it, none does
  far_above : (y z : Float) → T (positive y) → T (positive z) → Under x y → Under y z → near y x ≡ false → near z x ≡ false
  unfolding near
  far_above y z q r u v h =
      let w = under_trans x y z u v in
      let m : T (magnitude (y ⊖ x) ≼ magnitude (z ⊖ x)) = rw (magnitude_down y q u, magnitude_down z r w) (sub_mono y z x q r p u v) in
      split (magnitude (z ⊖ x) ≺ hair) (λ t. clash (under_hair (y ⊖ x) (z ⊖ x) m t) h) (λ t. t)
    where
      magnitude_down : (y : Float) → T (positive y) → Under x y → magnitude (y ⊖ x) ≡ y ⊖ x
      magnitude_down y q u = rw (sub_down y x q p u) (magnitude_round _ false _ _)

  none_near : (y : Float) (zs : List Float) → T (positive y) → Pos zs → Over y zs → Under x y → near y x ≡ false → place zs x ≡ length zs
  unfolding first_where
  none_near y [] q r o u h = refl
  none_near y (z ∷ zs) q r o u h = rw (far_above y z q r.0 u o.0 h) (ap suc (none_near y zs q r.1 o.1 u h))

  reach_place : (ys : List Float) → Pos ys → Ordered ys → place ys x < length ys → first_where (λ a. reaches a x) ys ≡ place ys x
  unfolding first_where
  reach_place [] q o h = refl
  reach_place (y ∷ ys) q o h =
      split (x ≺ y)
      (λ s. let u = under_of_lt x y p q.0 s in
      split (near y x) (λ t. rw (t, reach_above y q.0 u))
      (λ t. absurd (lt_irrefl (length ys) (rw (none_near y ys q.0 q.1 o.0 u t) at (le_of_suc-le-suc (rw t at h))))))
      (λ s. let e = reach_below y q.0 (under_of_not_lt x y p q.0 s) in
      split (near y x) (λ t. rw (t, sym e ∙ t)) (λ t. rw (t, sym e ∙ t) (ap suc (reach_place ys q.1 o.1 (le_of_suc-le-suc (rw t at h))))))

-- the first value that takes x, found so
pub place_by_halves : (axis : List Float) (x : Float) → OnAxis axis x → first_where (λ a. reaches a x) axis ≡ place axis x
place_by_halves axis x h =
    let a = h.ascends in
    reach_place x h.above_zero axis a.positives (ordered_of axis a.positives a.sorted) h.inside
