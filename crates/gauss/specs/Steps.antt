-- What the private steps of crate `normal` promise each other. No meaning of document 01's rests on these.
use Rattle.std.specs.Prelude.{Bool, ◌&&◌, ℕ, ◌^◌, leb, Float, if◌then◌else◌}
use Rattle.std.specs.Float.Ieee.{eq, neg}
use Rattle.floats.specs.Operators.{decimal, ◌⊖◌, ◌⊗◌, ◌≺◌, ◌≼◌}
use Rattle.elementary.specs.Exp.{exp}

-- Of a round of the series for erfc, whose term is g: the sum after it is the sum before it.
abbrev pub unmoved : Float → Float → Float → Bool
unmoved g sum next = eq next sum

-- The largest factor (2 × v) × v of a term at which the series may be left, and the first round; every divisor 2n + 3 after that round is above it.
abbrev pub largest_factor : ℕ
largest_factor = 8

abbrev pub late_round : ℕ
late_round = 3

-- Round n left its sum as it was, and its term g and w = (2 × v) × v are such that no later round changes it.
unfoldable pub settled : ℕ → Float → Float → Float → Float → Bool
settled n w g sum next =
    unmoved g sum next && decimal 0 1 ≺ sum && decimal 0 1 ≺ g && g ≼ decimal 1 1 && decimal 0 1 ≺ w && w ≼ decimal largest_factor 1 && leb late_round n

-- v or its mirror image, whichever is not below 0; and erfc of v, from erfc of that.
abbrev pub upright : Float → Float
upright v = if v ≺ decimal 0 1 then neg v else v

abbrev pub mirrored : Float → Float → Float
mirrored v e = if v ≺ decimal 0 1 then decimal 2 1 ⊖ e else e

-- What erfc multiplies the sum by under 2, and what it divides by the fraction from 2 on.
abbrev pub near_factor : Float → Float
near_factor v = decimal 11283791670955126 (10 ^ 16) ⊗ exp (neg (v ⊗ v))

abbrev pub far_numerator : Float → Float
far_numerator v = exp (neg (v ⊗ v)) ⊗ decimal 5641895835477563 (10 ^ 16)
