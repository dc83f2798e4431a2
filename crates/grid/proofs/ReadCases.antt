-- The cases of a bracket and of a reading, by the tests that choose them. Assumes nothing.
use Prim.Native.Nat.{ℕ, ◌-◌}
use mathlib.Core.Path.{◌≡◌}
use mathlib.Core.Bool.{true, false, ◌||◌}
use mathlib.Core.List.{List}
use lib.Dec.{leb, eqb}
use lib.ListN.{length, take, get_or}
use lib.Ieee.{Float, nan}
use borrow.Author.Tests.{ne_eqb}
use Rattle.floats.specs.Operators.{decimal}
use Rattle.limits.specs.Checks.{first}
use Rattle.limits.specs.Outcome.{done, refused, answered}
use Rattle.grid.specs.Search.{first_where}
use Rattle.grid.specs.Readings.{fraction, above, bracket, corners, has_gap, bilinear, read_refusal, reading, Passed}
use Rattle.grid.specs.declared.Span.{Span}
use Rattle.grid.specs.declared.Corners.{Corners}
use Rattle.grid.proofs.ReadChecks as checks

module _ (axis : List Float) (n pos : ℕ) (x : Float) (sized : length axis ≡ n) (found : pos ≡ first_where (above x) axis) where
  abbrev at : ℕ → ℕ → Float → Span
  at lo hi t = record { lower = lo; upper = hi; fraction = t }

  pub bracket_first : (eqb n 1 || eqb pos 0) ≡ true → at 0 0 (decimal 0 1) ≡ bracket axis x
  unfolding bracket
  bracket_first t = rw (sized, ← found, t)

  pub bracket_last : (eqb n 1 || eqb pos 0) ≡ false → leb n pos ≡ true → at (n - 1) (n - 1) (decimal 0 1) ≡ bracket axis x
  unfolding bracket
  bracket_last t u = rw (sized, ← found, t, u)

  pub bracket_between : (t : Float) → (eqb n 1 || eqb pos 0) ≡ false → leb n pos ≡ false → t ≡ fraction (get_or axis (pos - 1) nan) (get_or axis pos nan) x
      → at (pos - 1) pos t ≡ bracket axis x
  unfolding bracket
  bracket_between t u w e = rw (sized, ← found, u, w, e)

module _ (K E grid : List Float) (strikes expiries : ℕ) (strike expiry : Float) where
  pub read_refused : (n : ℕ) → n ≡ read_refusal K E grid strikes expiries strike expiry false → (n ≡ 0 → ⊥)
      → refused n (decimal 0 1) ≡ reading K E grid strikes expiries strike expiry
  unfolding reading answered
  read_refused n h k = rw (checks.refused K E grid strikes expiries strike expiry n h k, ne_eqb n 0 k)

  module _ (P : Passed K E grid strikes expiries strike expiry) (s e : Span) (v : Corners)
      (hs : s ≡ bracket (take strikes K) strike) (he : e ≡ bracket (take expiries E) expiry) (hv : v ≡ corners s e grid) where
    pub read_gap : has_gap v ≡ true → refused 20 (decimal 0 1) ≡ reading K E grid strikes expiries strike expiry
    unfolding reading answered first
    read_gap t = rw (← hs, ← he, ← hv, P.number (has_gap v), t)

    pub read_value : (x : Float) → has_gap v ≡ false → x ≡ bilinear v s.fraction e.fraction → done x ≡ reading K E grid strikes expiries strike expiry
    unfolding reading answered first
    read_value x t b = rw (← hs, ← he, ← hv, P.number (has_gap v), t, b)
