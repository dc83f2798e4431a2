-- `floats::taken_apart`: the two tests are `positive`, and digits fix both numbers (Digits). Assumes nothing.
use Rattle.std.proofs.Common.{◌≡◌, sym, ◌∙◌, T}
use mathlib.Core.Bool.{true, false, ◌&&◌}
use lib.Ieee.{Float, of_bits, round, div}
use lib.Ieee.Positive.{positive}
use Rattle.floats.specs.Operators.{◌≺◌}
use Rattle.floats.specs.Digits.{parts_of}
use Rattle.floats.proofs.Tests.{holds, and_false}
use Rattle.floats.proofs.Signs.{O, infinity}
use Rattle.floats.proofs.Digits.{positive_tests, parts_are}
use Rattle.floats.proofs.taken_apart.Goals as goal
use Rattle.floats.proofs.taken_apart.Goals.{else-v-via-then-v+else-v-2, else-v-via-else-v}

is_pos : (v : Float) → O ≺ v ≡ true → v ≺ infinity ≡ true → T (positive v)
is_pos v l h = holds (positive v) (sym (positive_tests v) ∙ (let both : (O ≺ v && v ≺ infinity) ≡ true = simp (l, h) in both))

pub leading_digits-requires : goal.leading_digits-requires
unfolding of_bits round div
leading_digits-requires c = is_pos c.args.v c.if-v.true c.if-v-2.true

pub returns-then-v-2 : goal.returns-then-v-2
unfolding of_bits round div
returns-then-v-2 c = parts_are c.args.v c.leading_digits.result (is_pos c.args.v c.if-v.true c.if-v-2.true) c.leading_digits.ensures

pub returns-else-v : goal.returns-else-v
unfolding parts_of of_bits round div
returns-else-v c =
    let v = c.args.v in
    elim c.else-v.branch [
      | else-v-via-then-v+else-v-2 w ↦ (let e : positive v ≡ false = sym (positive_tests v) ∙ simp (w.if-v-2.false, and_false) in rw e)
      | else-v-via-else-v w ↦ (let e : positive v ≡ false = sym (positive_tests v) ∙ simp w.if-v.false in rw e)
    ]
