-- `solver::feed`: the checks decide first, 21 before the others; a state that 21 lets through holds at most 50 rounds and 52 evaluations, so that no sum
-- wraps. Assumes nothing.
use mathlib.Core.Path.{◌≡◌, refl, sym, ◌∙◌}
use mathlib.Core.Bool.{false, not}
use mathlib.Core.List.{[], ◌∷◌}
use native.Mathlib.Omega.{arith}
use borrow.Author.Tests.{ne_eqb}
use lib.Dec.{leb}
use lib.Ieee.{Float}
use Rattle.floats.specs.Values.{finite}
use Rattle.limits.specs.Checks.{first, none}
use Rattle.limits.proofs.Checks.{elsewhere}
use Rattle.limits.proofs.Refusals.{some}
use Rattle.brent.specs.declared.Solver.{Solver}
use Rattle.brent.specs.Outcome.{outcome, outcome_of_implied}
use Rattle.brent.specs.Feed.{most_rounds, is_unusable, is_unbracketed, feed_number, feed}
use Rattle.brent.proofs.Cases.{usable}
use Rattle.solver.proofs.feed.Goals as goal

not_21 : (s : Solver) (error : Float) → is_unusable s ≡ false → feed_number s error ≡ 21 → ⊥
unfolding feed_number first
not_21 s error h e =
    let rest : none ≡ 21 =
    elsewhere 21 ((not (finite error), 11) ∷ (is_unbracketed s error, 12) ∷ (leb most_rounds s.rounds, 13) ∷ []) none refl (rw h at e) in
    omega arith

pub returns-then-is_unusable : goal.returns-then-is_unusable
unfolding outcome outcome_of_implied feed feed_number first
returns-then-is_unusable c = let t = sym c.is_unusable.ensures ∙ c.if-is_unusable.true in simp (t, c.into.ensures)

pub overflow_add-evaluations : goal.overflow_add-evaluations
overflow_add-evaluations c = omega (arith, (usable c.args.s (sym c.is_unusable.ensures ∙ c.if-is_unusable.false)).evaluations)

pub overflow_add-s : goal.overflow_add-s
overflow_add-s c = omega (arith, (usable c.args.s (sym c.is_unusable.ensures ∙ c.if-is_unusable.false)).rounds)

pub returns-in-Err : goal.returns-in-Err
unfolding feed
returns-in-Err c =
    let n = c.in-Err.ensures in
    let t = sym c.is_unusable.ensures ∙ c.if-is_unusable.false in
    simp (c.refuse.ensures, sym n, ne_eqb _ 21 (λ e. not_21 c.args.s _ t (sym n ∙ e)), ne_eqb _ none (some c.in-Err.refusal))
