-- `floats::is_finite`: the library's word. Assumes nothing.
use Rattle.std.proofs.Common.{◌∙◌}
use Rattle.floats.proofs.Signs.{float_is_finite-is}
use Rattle.floats.proofs.is_finite.Goals as goal

pub returns : goal.returns
returns c = c.is_finite.ensures.value ∙ float_is_finite-is c.args.x
