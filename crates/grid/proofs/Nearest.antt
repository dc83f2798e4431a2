-- The strike nearest a spot: how a search that goes along the axis finds it, and what it is. Assumes nothing.
use Prim.Native.Nat.{ℕ, zero, suc, ◌+◌, ◌-◌, ◌≤◌, ◌<◌}
use mathlib.Core.Path.{◌≡◌, refl, sym, ◌∙◌, subst}
use mathlib.Core.Bool.{Bool, true, false, not}
use mathlib.Core.List.{List, [], ◌∷◌}
use native.Mathlib.Nat.{le_of_suc-le-suc}
use native.Mathlib.Omega.{arith}
use lib.Dec.{eqb}
use borrow.Author.Tests.{eqb-true, eqb-false, not-true}
use lib.ListN.{length, get_or}
use lib.Ieee.{Float, nan, is_nan}
use Rattle.floats.specs.Operators.{◌≺◌}
use Rattle.floats.proofs.Tests.{split, clash, or_true}
use Rattle.floats.proofs.Signs.{below_some}
use Rattle.floats.proofs.Whole.{difference_rounds}
use Rattle.floats.proofs.Less.{lt_turns, lt_through, differences, difference_turns, none_below_itself}
use Rattle.grid.specs.Search.{first_where}
use Rattle.grid.specs.Readings.{is_axis}
use Rattle.grid.specs.Nearest.{away_from, is_nearer, is_beaten, nearest, nearest_strike, NearestOf, IsNearest, Away, Nearest}
use Rattle.grid.proofs.First.{first_upto, first_hit}
use Rattle.grid.proofs.Axes.{axis_long, axis_finite, axis_inside}

not_below_itself : (x : Float) → x ≺ x ≡ false
not_below_itself x = split (x ≺ x) (λ t. lt_turns x x t) (λ t. t)

pub away_laws : (spot strike : Float) → Away spot strike
away_laws spot strike =
    record {
      rounded = λ f g p q. difference_turns strike spot ∙ difference_rounds spot strike f g p q;
      turns = difference_turns strike spot;
      at_spot = none_below_itself strike spot;
    }

module _ (spot : Float) where
  -- ---- a strike that one of the list is nearer than, and one that none is
  beaten : (ks : List Float) (strike : Float) (i : ℕ) → i < length ks → away_from spot (get_or ks i nan) ≺ away_from spot strike ≡ true
      → is_beaten spot ks strike ≡ true
  unfolding is_beaten
  beaten [] strike i h t = absurd (omega arith)
  beaten (k ∷ ks) strike zero h t = rw t
  beaten (k ∷ ks) strike (suc i) h t = rw (beaten ks strike i (le_of_suc-le-suc h) t, or_true (is_nearer spot k strike))

  unbeaten : (ks : List Float) (strike : Float) → ((i : ℕ) → i < length ks → away_from spot (get_or ks i nan) ≺ away_from spot strike ≡ false)
      → is_beaten spot ks strike ≡ false
  unfolding is_beaten
  unbeaten [] strike h = refl
  unbeaten (k ∷ ks) strike h = rw (h 0 (omega arith), unbeaten ks strike (λ i l. h (suc i) (omega arith)))

  module _ (strikes : List Float) where
    abbrev away : ℕ → Float
    away i = away_from spot (get_or strikes i nan)

    lead_start : NearestOf spot strikes 1 0
    lead_start =
        record {
          within = omega arith;
          none_nearer = λ j h. (let e : j ≡ 0 = omega arith in rw e (not_below_itself (away 0)));
          below_farther = λ j h. absurd (omega arith);
        }

    lead_keep : (i n : ℕ) → away i ≺ away n ≡ false → NearestOf spot strikes i n → NearestOf spot strikes (i + 1) n
    lead_keep i n f l =
        record {
          within = omega (arith, l.within);
          none_nearer = λ j h. split (eqb j i)
              (λ t. let e = eqb-true j i t in rw e f)
              (λ t. l.none_nearer j (let e = eqb-false j i t in omega arith));
          below_farther = l.below_farther;
        }

    lead_move : (i n : ℕ) → is_axis strikes ≡ true → i < length strikes → away i ≺ away n ≡ true → NearestOf spot strikes i n
        → NearestOf spot strikes (i + 1) i
    lead_move i n a h t l =
        let farther : (j : ℕ) → j < i → away i ≺ away j ≡ true =
        (λ j k. lt_through (away i) (away n) (away j) (number j (omega arith)) t (l.none_nearer j k)) in
        record {
          within = omega arith;
          none_nearer = λ j k. split (eqb j i)
              (λ u. let e = eqb-true j i u in rw e (not_below_itself (away i)))
              (λ u. lt_turns (away i) (away j) (farther j (let e = eqb-false j i u in omega arith)));
          below_farther = farther;
        }
      where
        number : (j : ℕ) → j < length strikes → is_nan (away j) ≡ false
        number j k =
            differences (get_or strikes i nan) (get_or strikes j nan) spot (axis_finite strikes a i h) (axis_finite strikes a j k)
            (below_some (away i) (away n) t)

    -- ---- the strike that leads when i of them have been passed: before the first round the first one
    pub record Leads (i : ℕ) (strike : Float) : Type 0 where
      pub at : ℕ
      pub is : strike ≡ get_or strikes at nan
      pub first : i ≡ 0 → at ≡ 0
      pub leads : 0 < i → NearestOf spot strikes i at

    pub leads_keep : (i : ℕ) (strike : Float) → away i ≺ away_from spot strike ≡ false → Leads i strike → Leads (i + 1) strike
    leads_keep i strike f l =
        record {
          at = l.at;
          is = l.is;
          first = λ e. absurd (omega arith);
          leads = λ h. split (eqb i 0)
              (λ t.
              let z = eqb-true i 0 t in
              rw (z, l.first z) lead_start)
              (λ t. lead_keep i l.at (rw (← l.is) f) (l.leads (let z = eqb-false i 0 t in omega arith)));
        }

    pub leads_move : (i : ℕ) (strike : Float) → is_axis strikes ≡ true → i < length strikes → away i ≺ away_from spot strike ≡ true → Leads i strike
        → Leads (i + 1) (get_or strikes i nan)
    leads_move i strike a h t l =
        let before : away i ≺ away l.at ≡ true = rw (← l.is) t in
        record {
          at = i;
          is = refl;
          first = λ e. absurd (omega arith);
          leads = λ k. split (eqb i 0)
              (λ u.
              let z = eqb-true i 0 u in
              let same : i ≡ l.at = z ∙ sym (l.first z) in
              clash before (rw (← same) (not_below_itself (away i))))
              (λ u. lead_move i l.at a h before (l.leads (let z = eqb-false i 0 u in omega arith)));
        }

    -- ---- there is one, and it is the first that none is nearer than
    abbrev leading : Float → Bool
    leading k = not (is_beaten spot strikes k)

    pub nearest_only : (n : ℕ) → IsNearest spot strikes n → n ≡ nearest spot strikes
    unfolding nearest
    nearest_only n N =
        let here : leading (get_or strikes n nan) ≡ true = rw (unbeaten strikes (get_or strikes n nan) N.none_nearer) in
        let upto = first_upto leading strikes n nan N.within here in
        split (eqb (first_where leading strikes) n)
        (λ t. sym (eqb-true (first_where leading strikes) n t))
        (λ t.
        let ne = eqb-false (first_where leading strikes) n t in
        let before : first_where leading strikes < n = omega arith in
        let hit = first_hit leading strikes nan (omega (arith, N.within)) in
        let lost = beaten strikes (get_or strikes (first_where leading strikes) nan) n N.within (N.below_farther (first_where leading strikes) before) in
        clash lost (not-true (is_beaten spot strikes (get_or strikes (first_where leading strikes) nan)) hit))

    leader : is_axis strikes ≡ true → (i : ℕ) → i < length strikes → (n : ℕ) × NearestOf spot strikes (i + 1) n
    leader a zero h = (0, lead_start)
    leader a (suc i) h =
        let l = leader a i (omega arith) in
        let e : suc i ≡ i + 1 = omega arith in
        split (away (suc i) ≺ away l.0)
        (λ t. (suc i, lead_move (suc i) l.0 a h t (rw e l.1)))
        (λ t. (l.0, lead_keep (suc i) l.0 t (rw e l.1)))

    nearest_is : is_axis strikes ≡ true → IsNearest spot strikes (nearest spot strikes)
    nearest_is a =
        let some = axis_long strikes a in
        let l = leader a (length strikes - 1) (omega arith) in
        let e : length strikes - 1 + 1 ≡ length strikes = omega arith in
        let N = subst (λ (i : ℕ). NearestOf spot strikes i l.0) e l.1 in
        subst (λ (n : ℕ). IsNearest spot strikes n) (nearest_only l.0 N) N

    pub nearest_laws : Nearest spot strikes
    unfolding nearest_strike
    nearest_laws =
        record {
          is = nearest_is;
          only = nearest_only;
          strike = λ a. rw a;
          no_strike = λ a. rw a;
          on_axis = λ a n h. axis_inside strikes a n h;
          inside_axis = λ a. rw a (axis_inside strikes a (nearest spot strikes) (nearest_is a).within);
        }

    pub leads_end : (i : ℕ) (strike : Float) → is_axis strikes ≡ true → length strikes ≤ i → i ≤ length strikes → Leads i strike
        → strike ≡ nearest_strike spot strikes
    unfolding nearest_strike
    leads_end i strike a h k l =
        let some = axis_long strikes a in
        let e : i ≡ length strikes = omega arith in
        let N = subst (λ (j : ℕ). NearestOf spot strikes j l.at) e (l.leads (omega arith)) in
        rw (a, ← nearest_only l.at N) l.is
