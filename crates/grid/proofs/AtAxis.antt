-- A read at a strike of the axis: 19 does not hold of it. Assumes nothing.
use Prim.Native.Nat.{ℕ, ◌≤◌, ◌<◌}
use mathlib.Core.Path.{◌≡◌, refl}
use mathlib.Core.Bool.{Bool, true, not, ◌&&◌, ◌||◌}
use mathlib.Core.List.{List, [], ◌∷◌}
use native.Mathlib.Omega.{arith}
use lib.Dec.{ltb}
use lib.ListN.{length, take, get_or}
use lib.Seq.{length-take-le, get_or-take}
use lib.Ieee.{Float, nan}
use borrow.Author.Tests.{not-false}
use Rattle.floats.proofs.Tests.{split, and_left}
use Rattle.limits.specs.Checks.{first, none}
use Rattle.limits.proofs.Checks.{Rows, passes, elsewhere}
use Rattle.grid.specs.Readings.{is_axis, inside, read_refusal, middle_strike}
use Rattle.grid.specs.Nearest.{nearest_strike, axis_refusal, AtAxis}
use Rattle.grid.proofs.ReadChecks.{small, long, axis_some}
use Rattle.grid.proofs.Axes.{axis_inside}
use Rattle.grid.proofs.Nearest.{nearest_laws}

module _ (K E grid : List Float) (strikes expiries : ℕ) (expiry : Float) (gap : Bool) where
  abbrev large : Bool
  large = ltb 64 strikes || ltb 32 expiries

  abbrev short : Bool
  short = ltb (length K) 64 || ltb (length E) 32 || ltb (length grid) 2048

  abbrev strike_axis : Bool
  strike_axis = is_axis (take strikes K)

  abbrev axes : Bool
  axes = strike_axis && is_axis (take expiries E)

  at_axis : (strike : Float) → (strikes ≤ 64 → 64 ≤ length K → strike_axis ≡ true → inside (take strikes K) strike ≡ true)
      → read_refusal K E grid strikes expiries strike expiry gap ≡ axis_refusal K E grid strikes expiries expiry gap
  unfolding read_refusal axis_refusal first
  at_axis strike i =
      split large
      (λ t. rw t)
      (λ l.
      split short
      (λ t. rw (l, t))
      (λ s.
      split axes
      (λ a. rw (l, s, a, i (small strikes expiries l).0 (long (length K) (length E) (length grid) s).0 (and_left strike_axis (is_axis (take expiries E)) a)))
      (λ a. rw (l, s, a))))

  entry_inside : (i : ℕ) → i < strikes → strikes ≤ 64 → 64 ≤ length K → strike_axis ≡ true → inside (take strikes K) (get_or K i nan) ≡ true
  entry_inside i at h k a =
      let few : strikes ≤ length K = omega arith in
      let here : i < length (take strikes K) = simp (length-take-le strikes K few) at in
      rw (← get_or-take strikes K i nan at) (axis_inside (take strikes K) a i here)

  middle_inside : strikes ≤ 64 → 64 ≤ length K → strike_axis ≡ true → inside (take strikes K) (middle_strike K strikes) ≡ true
  middle_inside h k a = let some = axis_some strikes K a in entry_inside _ (omega arith) h k a

  abbrev rows : Rows
  rows = (large, 2) ∷ (short, 15) ∷ (not axes, 18) ∷ (not (inside (take expiries E) expiry) || gap, 20) ∷ []

  -- where none holds, the strikes in use are an axis
  pub at_axis_passed : axis_refusal K E grid strikes expiries expiry gap ≡ none → (strikes ≤ length K) × (strike_axis ≡ true)
  unfolding axis_refusal
  at_axis_passed h =
      let p = (passes rows none refl h).0 in
      let s = (small strikes expiries p.0).0 in
      let l = (long (length K) (length E) (length grid) p.1.0).0 in
      (omega arith, and_left strike_axis (is_axis (take expiries E)) (not-false axes p.1.1.0))

  pub at_axis_laws : AtAxis K E grid strikes expiries expiry gap
  unfolding axis_refusal
  at_axis_laws =
      record {
        middle = at_axis (middle_strike K strikes) middle_inside;
        nearest = λ spot. at_axis (nearest_strike spot (take strikes K)) (λ h k a. (nearest_laws spot (take strikes K)).inside_axis a);
        never_19 = λ h. (let z : none ≡ 19 = elsewhere 19 rows none refl h in omega arith);
      }
