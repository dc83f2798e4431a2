-- One name that opens what the functions of a round are proved equal to, and the literals of the code. Assumes nothing.
use Rattle.std.specs.Prelude.{⊤}
use Rattle.limits.proofs.Float.{of_bits, round}
use Rattle.brent.specs.Brent.{reset, swap, tolerance, middle, converged, turned, by_line, by_parabola, interpolation, tries, accepts, steps, step, advance}

unfoldable pub opened : ⊤
unfolding of_bits round reset swap tolerance middle converged turned by_line by_parabola interpolation tries accepts steps step advance
opened = tt
