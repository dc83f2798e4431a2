-- `floats::abs`: the library clears the sign. Assumes nothing.
use Rattle.std.proofs.Common.{◌∙◌}
use Rattle.floats.proofs.Signs.{float_with_sign-clear}
use Rattle.floats.proofs.abs.Goals as goal

pub returns : goal.returns
returns c = c.abs.ensures.value ∙ float_with_sign-clear c.args.x
