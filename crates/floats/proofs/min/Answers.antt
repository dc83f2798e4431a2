-- `floats::min`: the first test passes for a not-a-number, the second for none. Assumes nothing.
use Rattle.std.specs.Prelude.{if◌then◌else◌}
use Rattle.std.proofs.Common.{◌≡◌, refl, sym, ◌∙◌, Bool, true, false, true≢false}
use lib.Ieee.{Float, is_nan}
use Rattle.floats.specs.Operators.{◌≺◌}
use Rattle.floats.specs.Values.{minimum}
use Rattle.floats.proofs.Signs.{below_some}
use Rattle.floats.proofs.min.Goals as goal
use Rattle.floats.proofs.min.Goals.{then-is_nan, else-is_nan}

same : (b : Bool) (x : Float) → x ≡ if b then x else x
same true x = refl
same false x = refl

module _ (x y : Float) where
  beside_nan : is_nan x ≡ true → y ≡ minimum x y
  unfolding minimum
  beside_nan n = simp n

  smaller : is_nan x ≡ false → y ≺ x ≡ true → y ≡ minimum x y
  unfolding minimum
  smaller n l = simp (n, below_some y x l, l)

  first : is_nan x ≡ false → y ≺ x ≡ false → x ≡ minimum x y
  unfolding minimum
  first n l = simp (n, l) (same (is_nan y) x)

pub returns-then-y-x : goal.returns-then-y-x
returns-then-y-x c =
    let number = sym c.is_nan.ensures.value in
    elim c.if-is_nan.branch [
      | then-is_nan w ↦ beside_nan c.args.x c.args.y (number ∙ w.if-is_nan.true)
      | else-is_nan w ↦ smaller c.args.x c.args.y (number ∙ w.if-is_nan.false) (sym w.value-is ∙ c.if-y-x.true)
    ]

pub returns-else-y-x : goal.returns-else-y-x
returns-else-y-x c =
    let number = sym c.is_nan.ensures.value in
    elim c.if-is_nan.branch [
      | then-is_nan w ↦ absurd (true≢false (sym w.if-is_nan.true ∙ sym w.value-is ∙ c.if-y-x.false))
      | else-is_nan w ↦ first c.args.x c.args.y (number ∙ w.if-is_nan.false) (sym w.value-is ∙ c.if-y-x.false)
    ]
