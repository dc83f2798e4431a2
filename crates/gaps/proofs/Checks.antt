-- The filler's checks: what passes them, and which number what does not gets. Assumes nothing.
use Prim.Native.Nat.{ℕ, ◌≤◌}
use mathlib.Core.Path.{◌≡◌, refl}
use mathlib.Core.Bool.{◌||◌}
use mathlib.Core.List.{List, [], ◌∷◌}
use lib.Dec.{ltb}
use lib.ListN.{length}
use lib.Ieee.{Float}
use borrow.Author.Tests.{ltb-false, lt-ltb, le-ltb}
use Rattle.floats.proofs.Tests.{or_true}
use Rattle.limits.specs.Checks.{first, none}
use Rattle.limits.proofs.Checks.{passes}
use Rattle.grid.proofs.ReadChecks.{small}
use Rattle.gaps.specs.Gaps.{fill_refusal, Numbered}

-- a grid is let through exactly when it is no larger than this and long enough
pub fits : (strikes expiries : ℕ) (was : List Float) → fill_refusal strikes expiries was ≡ none
    → (strikes ≤ 64) × (expiries ≤ 32) × (2048 ≤ length was)
unfolding fill_refusal
fits strikes expiries was e =
    let large = ltb 64 strikes || ltb 32 expiries in
    let short = ltb (length was) 2048 in
    let p = (passes ((large, 2) ∷ (short, 15) ∷ []) none refl e).0 in
    let s = small strikes expiries p.0 in
    (s.0, s.1, ltb-false (length was) 2048 p.1.0)

pub let_through : (strikes expiries : ℕ) (was : List Float) → strikes ≤ 64 → expiries ≤ 32 → 2048 ≤ length was → fill_refusal strikes expiries was ≡ none
unfolding fill_refusal first
let_through strikes expiries was a b c = rw (le-ltb 64 strikes a, le-ltb 32 expiries b, le-ltb (length was) 2048 c)

pub numbered : (strikes expiries : ℕ) (grid : List Float) → Numbered strikes expiries grid
unfolding fill_refusal first
numbered strikes expiries grid =
    record {
      many_strikes = λ h. rw (lt-ltb 64 strikes h);
      many_expiries = λ h. rw (lt-ltb 32 expiries h, or_true (ltb 64 strikes));
      short_grid = λ s e h. rw (le-ltb 64 strikes s, le-ltb 32 expiries e, lt-ltb (length grid) 2048 h);
    }
