-- `floats::copysign`: a not-a-number counts as not negative; of any other the library reads the sign. Assumes nothing.
use Rattle.std.proofs.Common.{sym, ◌∙◌}
use Rattle.floats.proofs.Signs.{float_with_sign-clear, float_with_sign-of, copysign-nan}
use Rattle.floats.proofs.copysign.Goals as goal

pub returns-then-is_nan : goal.returns-then-is_nan
returns-then-is_nan c =
    c.abs.ensures.value ∙ float_with_sign-clear c.args.x ∙ sym (copysign-nan c.args.x c.args.y (sym c.is_nan.ensures.value ∙ c.if-is_nan.true))

pub returns-else-is_nan : goal.returns-else-is_nan
returns-else-is_nan c = c.copysign.ensures ∙ float_with_sign-of c.args.x c.args.y
