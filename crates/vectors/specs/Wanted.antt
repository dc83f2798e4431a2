-- What a vector asks of an answer.
use Rattle.std.specs.Prelude.{Bool, ◌&&◌, ◌==◌, Float}
use Rattle.std.specs.Float.{binary64}
use Rattle.std.specs.Float.Ieee.{to_bits}
use Rattle.floats.specs.Operators.{◌⊖◌, ◌≼◌}
use Rattle.floats.specs.Values.{magnitude}
use Rattle.vectors.specs.declared.Wanted.{Wanted}
use Rattle.vectors.specs.declared.Wanted.TheVariants.{Bits, Near, Within}

-- The same bits; a distance of at most the tolerance; a value from low to high, ends included.
abbrev pub is_met : Wanted → Float → Bool
is_met (Bits n) x = to_bits binary64 x == n
is_met (Near y tolerance) x = magnitude (x ⊖ y) ≼ tolerance
is_met (Within low high) x = low ≼ x && x ≼ high
