-- What the checks of a read say together: what holds when none does, and that a cell that is not-a-number changes only the last. Assumes nothing.
use Prim.Native.Nat.{ℕ, zero, suc, ◌≤◌, ◌<◌}
use mathlib.Core.Path.{◌≡◌, refl, sym, ◌∙◌}
use mathlib.Core.Bool.{Bool, true, false, not, ◌&&◌, ◌||◌, or-false}
use mathlib.Core.List.{List, [], ◌∷◌}
use native.Mathlib.Omega.{arith}
use lib.Dec.{ltb}
use lib.ListN.{length, take}
use lib.Ieee.{Float}
use borrow.Author.Tests.{ltb-false, lt-ltb, le-ltb, not-false}
use Rattle.limits.specs.Checks.{first, none}
use Rattle.limits.proofs.Checks.{Rows, none_passes, passes, stays}
use Rattle.grid.specs.Readings.{is_axis, inside, read_refusal, Passed, Numbered}
use Rattle.floats.proofs.Tests.{and_left, and_right, or_true, or_left_false, or_right_false, split}

-- 2
pub small : (s e : ℕ) → (ltb 64 s || ltb 32 e) ≡ false → (s ≤ 64) × (e ≤ 32)
small s e h =
    let a = ltb 64 s in
    let b = ltb 32 e in
    (ltb-false 64 s (or_left_false a b h), ltb-false 32 e (or_right_false a b h))

-- 15
pub long : (k t g : ℕ) → (ltb k 64 || ltb t 32 || ltb g 2048) ≡ false → (64 ≤ k) × (32 ≤ t) × (2048 ≤ g)
long k t g h =
    let a = ltb k 64 in
    let b = ltb t 32 in
    let c = ltb g 2048 in
    let d = or_left_false (a || b) c h in
    (ltb-false k 64 (or_left_false a b d), ltb-false t 32 (or_right_false a b d), ltb-false g 2048 (or_right_false (a || b) c h))

-- 18: an axis has a value
pub axis_some : (n : ℕ) (l : List Float) → is_axis (take n l) ≡ true → 0 < n
unfolding is_axis
axis_some zero l h = (let z : ◌≡◌ {A = ℕ} 0 1 = cc in let w : ⊥ = omega arith in absurd w)
axis_some (suc n) l h = omega arith

module _ (K E grid : List Float) (strikes expiries : ℕ) (strike expiry : Float) (n : ℕ)
    (h : n ≡ read_refusal K E grid strikes expiries strike expiry false) where
  abbrev large : Bool
  large = ltb 64 strikes || ltb 32 expiries

  abbrev short : Bool
  short = ltb (length K) 64 || ltb (length E) 32 || ltb (length grid) 2048

  abbrev axes : Bool
  axes = is_axis (take strikes K) && is_axis (take expiries E)

  abbrev outside : Bool
  outside = not (inside (take expiries E) expiry)

  -- 2, 15, 18 and 19
  abbrev rows : Rows
  rows = (large, 2) ∷ (short, 15) ∷ (not axes, 18) ∷ (not (inside (take strikes K) strike), 19) ∷ []

  pub passed : n ≡ 0 → Passed K E grid strikes expiries strike expiry
  unfolding read_refusal first
  passed z =
      let q = passes rows (first (outside || false) 20 none) refl (sym h ∙ z) in
      let p = q.0 in
      let e = or_left_false outside false (none_passes (outside || false) 20 none (omega arith) q.1).0 in
      let a = not-false axes p.1.1.0 in
      let s = small strikes expiries p.0 in
      let l = long (length K) (length E) (length grid) p.1.0 in
      record {
        few_strikes = s.0;
        few_expiries = s.1;
        long_strikes = l.0;
        long_expiries = l.1;
        long_grid = l.2;
        some_strikes = axis_some strikes K (and_left (is_axis (take strikes K)) (is_axis (take expiries E)) a);
        some_expiries = axis_some expiries E (and_right (is_axis (take strikes K)) (is_axis (take expiries E)) a);
        axes = a;
        strike_inside = not-false (inside (take strikes K) strike) p.1.1.1.0;
        expiry_inside = not-false (inside (take expiries E) expiry) e;
        number = λ gap. rw (p.0, p.1.0, p.1.1.0, p.1.1.1.0, e);
      }

  pub refused : (n ≡ 0 → ⊥) → (gap : Bool) → read_refusal K E grid strikes expiries strike expiry gap ≡ n
  unfolding read_refusal first
  refused k gap =
      split outside
      (λ t. rw t (sym (rw t at h)))
      (λ f. rw f (sym (stays rows n (first gap 20 none) (rw f at h) k)))

-- the last two lines, where those before them pass
pub read_last : (K E grid : List Float) (strikes expiries : ℕ) (strike expiry : Float) → (ltb 64 strikes || ltb 32 expiries) ≡ false
    → (ltb (length K) 64 || ltb (length E) 32 || ltb (length grid) 2048) ≡ false → (is_axis (take strikes K) && is_axis (take expiries E)) ≡ true
    → first (not (inside (take strikes K) strike)) 19 (first (not (inside (take expiries E) expiry)) 20 none)
    ≡ read_refusal K E grid strikes expiries strike expiry false
unfolding read_refusal first
read_last K E grid strikes expiries strike expiry a b c = rw (a, b, c, or-false)

-- ---- the numbers
pub numbered : (K E grid : List Float) (strikes expiries : ℕ) (strike expiry : Float) (gap : Bool) → Numbered K E grid strikes expiries strike expiry gap
unfolding read_refusal first
numbered K E grid strikes expiries strike expiry gap =
    record {
      many_strikes = λ h. rw (lt-ltb 64 strikes h);
      many_expiries = λ h. rw (lt-ltb 32 expiries h, or_true (ltb 64 strikes));
      short_strikes = λ s e h. rw (le-ltb 64 strikes s, le-ltb 32 expiries e, lt-ltb (length K) 64 h);
      short_expiries = λ s e h. rw (le-ltb 64 strikes s, le-ltb 32 expiries e, lt-ltb (length E) 32 h, or_true (ltb (length K) 64));
      short_grid = λ s e h. rw (le-ltb 64 strikes s, le-ltb 32 expiries e, lt-ltb (length grid) 2048 h, or_true (ltb (length K) 64 || ltb (length E) 32));
      no_axis = λ s e k t g h. rw (le-ltb 64 strikes s, le-ltb 32 expiries e, le-ltb (length K) 64 k, le-ltb (length E) 32 t, le-ltb (length grid) 2048 g, h);
    }
