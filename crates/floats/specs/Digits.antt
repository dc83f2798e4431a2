-- The binary digits of a float above 0, as the square root and the logarithm read them.
use Rattle.std.specs.Prelude.{◌≡◌, ℕ, ◌*◌, ◌/◌, ◌^◌, ◌≤◌, ◌<◌, T, Float, if◌then◌else◌}
use Rattle.std.specs.Float.Ieee.{fits, size}
use Rattle.std.specs.Float.{binary64}
use Rattle.std.specs.Float.Ieee.Positive.{positive}
use Rattle.floats.specs.Wholes.{units_of}
use Rattle.floats.specs.declared.Parts.{Parts}

-- v is z binary digits of units, and t is those digits cut or filled to 53: v = t × 2^(z - 53 - 1074)
pub record Digits (v : Float) (t z : ℕ) : Type 0 where
  pub value : t * 2 ^ z ≡ units_of v * 2 ^ 53
  pub places : z ≡ size (units_of v)
  pub low : 2 ^ 52 ≤ t
  pub high : t < 2 ^ 53
  pub small : z < 2099

-- Both numbers of any float: 0 where it is not above 0 or not finite.
unfoldable pub parts_of : Float → Parts
parts_of v =
    if positive v then record { digits = units_of v * 2 ^ 53 / 2 ^ size (units_of v); size = size (units_of v) }
    else record { digits = 0; size = 0 }

-- No digit of a finite float above 0 is lost, and the first of the 53 is 1.
pub record PartsLaw : Type 0 where
  pub of_positive : (v : Float) → T (fits binary64 v) → T (positive v) → Digits v (parts_of v).digits (parts_of v).size
