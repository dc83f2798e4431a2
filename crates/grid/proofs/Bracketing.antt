-- What a bracket comes to. Assumes nothing.
use Prim.Native.Nat.{ℕ, ◌-◌, ◌<◌}
use mathlib.Core.Path.{◌≡◌, refl, subst}
use mathlib.Core.Bool.{true, ◌||◌}
use mathlib.Core.List.{List}
use native.Mathlib.Omega.{arith}
use lib.Dec.{eqb, leb}
use lib.ListN.{length, get_or}
use lib.Ieee.{Float, nan}
use borrow.Author.Tests.{eqb-true, eqb-false, ne_eqb, leb-true, leb-false, not-false, not-true}
use Rattle.floats.specs.Operators.{◌≼◌}
use Rattle.floats.proofs.Tests.{split, clash, and_left, or_left, or_right_false}
use Rattle.grid.specs.Search.{first_where}
use Rattle.grid.specs.Readings.{inside, above, bracket, next, last, Brackets}
use Rattle.grid.specs.declared.Span.{Span}
use Rattle.grid.proofs.First.{first_before, first_hit}
use Rattle.grid.proofs.ReadCases.{bracket_first, bracket_last, bracket_between}

module _ (axis : List Float) (x : Float) (some : 0 < length axis) (between : inside axis x ≡ true) where
  abbrev n : ℕ
  n = length axis

  abbrev pos : ℕ
  pos = first_where (above x) axis

  -- values before the first above x
  under : (i : ℕ) → i < pos → get_or axis i nan ≼ x ≡ true
  under i h = not-false (get_or axis i nan ≼ x) (first_before (above x) axis i nan h)

  first_under : get_or axis 0 nan ≼ x ≡ true
  unfolding inside Rattle.limits.specs.Ranges.within
  first_under = and_left (get_or axis 0 nan ≼ x) (x ≼ get_or axis (n - 1) nan) between

  -- so the first value is not above x
  not_first : pos ≡ 0 → ⊥
  not_first e =
      let hit = first_hit (above x) axis nan (omega arith) in
      clash first_under (not-true (get_or axis 0 nan ≼ x) (subst (λ (k : ℕ). above x (get_or axis k nan) ≡ true) e hit))

  pub brackets : Brackets axis x (bracket axis x)
  brackets =
      split (eqb n 1 || eqb pos 0)
      (λ t.
      let one = eqb-true n 1 (or_left (eqb n 1) (eqb pos 0) t (ne_eqb pos 0 not_first)) in
      subst (λ (s : Span). Brackets axis x s) (bracket_first axis n pos x refl refl t)
      (record { lower = first_under; upper = last refl (omega arith) refl }))
      (λ t.
      split (leb n pos)
      (λ u.
      let p = leb-true n pos u in
      subst (λ (s : Span). Brackets axis x s) (bracket_last axis n pos x refl refl t u)
      (record { lower = under (n - 1) (omega arith); upper = last refl (omega arith) refl }))
      (λ u.
      let p = leb-false n pos u in
      let q : 0 < pos = omega (arith, eqb-false pos 0 (or_right_false (eqb n 1) (eqb pos 0) t)) in
      subst (λ (s : Span). Brackets axis x s) (bracket_between axis n pos x refl refl _ t u refl)
      (record {
        lower = under (pos - 1) (omega arith);
        upper = next (omega arith) p (not-true (get_or axis pos nan ≼ x) (first_hit (above x) axis nan p)) refl;
      })))
