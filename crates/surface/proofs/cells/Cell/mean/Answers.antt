-- `Cell::mean`: the count of at most 32 bits is a float. Assumes nothing.
use mathlib.Core.Path.{refl}
use lib.Ieee.{of_int}
use Rattle.surface.proofs.cells.Cell.mean.Goals as goal

pub returns : goal.returns
unfolding of_int
returns c = refl
