-- What the answer to a chain of checks tells: its number is the chain's, and its values are those of the side it is on. Assumes nothing.
use Prim.Native.Nat.{ℕ}
use mathlib.Core.Path.{◌≡◌, refl, sym, ◌∙◌}
use mathlib.Core.Bool.{true, false}
use lib.Dec.{eqb}
use borrow.Author.Tests.{eqb-true, eq-eqb}
use Rattle.floats.proofs.Tests.{split, clash}
use Rattle.limits.specs.Checks.{none}
use Rattle.limits.specs.Outcome.{done, is_done, number_of, values_of, answered}

module _ {X : Type 0} (n : ℕ) (zeros values : X) where
  pub number_answered : number_of (answered n zeros values) ≡ n
  unfolding answered
  number_answered = split (eqb n none) (λ t. rw t (sym (eqb-true n none t))) (λ f. rw f refl)

  pub done_answered : is_done (answered n zeros values) ≡ true → (n ≡ none) × (values_of (answered n zeros values) ≡ values)
  unfolding answered
  done_answered d =
      split (eqb n none)
      (λ t. (eqb-true n none t, rw t refl))
      (λ f. clash d (rw f refl))

  pub refused_answered : is_done (answered n zeros values) ≡ false → values_of (answered n zeros values) ≡ zeros
  unfolding answered
  refused_answered d =
      split (eqb n none)
      (λ t. clash (rw t refl) d)
      (λ f. rw f refl)

  pub none_answered : number_of (answered n zeros values) ≡ none → answered n zeros values ≡ done (values_of (answered n zeros values))
  unfolding answered
  none_answered h = let z = sym number_answered ∙ h in rw (eq-eqb n none z)
