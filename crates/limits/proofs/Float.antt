-- What std says of floats: what computes a literal of the code to the nearest one, and that its `abs` is the magnitude. Assumes nothing.
use mathlib.Core.Path.{◌≡◌, refl}
use mathlib.Core.Bool.{false}
use lib.Ieee.{Float, nan, inf, fin}
use Rattle.std.specs.Float.{float_with_sign}
use Rattle.floats.specs.Values.{magnitude}
unfoldable pub use lib.Ieee.{of_bits, round, neg}

pub abs : (x : Float) → float_with_sign false x ≡ magnitude x
unfolding float_with_sign magnitude
abs nan = refl
abs (inf s) = refl
abs (fin s m e) = refl
