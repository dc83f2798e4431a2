-- One name that opens the definition that the root is equal to, with the literals of the code. Assumes nothing.
use Rattle.std.specs.Prelude.{⊤}
use lib.Ieee.{of_bits, round, div}
use Rattle.root.specs.Root.{sqrt}

unfoldable pub opened : ⊤
unfolding of_bits round div sqrt
opened = tt
