-- One name that opens the definitions that the functions are equal to, with the literals of the code. Assumes nothing.
use Rattle.std.specs.Prelude.{⊤}
use Rattle.limits.specs.Ranges.{within, is_price}
use Rattle.limits.proofs.Float.{of_bits, round, neg}

unfoldable pub opened : ⊤
unfolding within is_price of_bits round neg
opened = tt
