-- One name that opens the definitions that the functions are equal to, with the literals of the code. Assumes nothing.
use Rattle.std.specs.Prelude.{⊤}
use lib.Ieee.{of_bits, round, neg, div}
use Rattle.elementary.specs.Exp.{exp}
use Rattle.elementary.specs.Ln.{ln}

unfoldable pub opened : ⊤
unfolding of_bits round neg div exp ln
opened = tt
