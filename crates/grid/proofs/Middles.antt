-- The middle strike of few strikes, by computation. Assumes nothing.
use mathlib.Core.Path.{refl}
use lib.Ieee.{Float}
use Rattle.grid.specs.Readings.{Middle}

pub middle : (a b c d : Float) → Middle a b c d
middle a b c d = record { of_1 = refl; of_2 = refl; of_3 = refl; of_4 = refl }
