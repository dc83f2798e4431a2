-- What the functions of a reading have in common, said once: what their tests say, and one name that opens the definitions that they are equal to, with
-- the literals of the code. Assumes nothing.
use Rattle.std.specs.Prelude.{⊤}
use Rattle.floats.proofs.Signs.{nan_is}
use Rattle.limits.proofs.Float.{of_bits, round}
use Rattle.limits.specs.Checks.{first}
use Rattle.grid.specs.Readings.{inside, fraction, corners, has_gap, bilinear, read_refusal}
use Rattle.grid.specs.Nearest.{nearest_strike}
use Rattle.grid.proofs.Axes.{axis_long}

pub ruleset facts = (nan_is, axis_long)

unfoldable pub opened : ⊤
unfolding of_bits round first inside fraction corners has_gap bilinear read_refusal nearest_strike
opened = tt
