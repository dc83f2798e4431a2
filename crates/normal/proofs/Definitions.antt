-- One name that opens the literals of the code, and the tests by which a series is left. Assumes nothing.
use Rattle.std.specs.Prelude.{⊤}
use lib.Ieee.{of_bits, round, of_int}
use Rattle.gauss.specs.Steps.{settled}

unfoldable pub opened : ⊤
unfolding of_bits round of_int settled
opened = tt
