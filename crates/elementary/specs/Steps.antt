-- What the private steps of crate `exponential` promise each other. No meaning of document 01's rests on these.
use Rattle.std.specs.Prelude.{Bool, ℕ, ◌*◌, ◌<◌, ltb, ℤ, pos, negsuc, Float}
use Rattle.std.specs.Float.{nan, inf, fin}
use Rattle.std.specs.Float.Ieee.{up, down}

-- k from -low to 1023
abbrev pub spans : ℕ → ℤ → Bool
spans low (pos n) = ltb n 1024
spans low (negsuc n) = ltb n low

-- k from -1022 to 1023: 2^k is a float
abbrev pub in_exponent : ℤ → Bool
in_exponent k = spans 1022 k

-- Finite, and below 2048 in size.
abbrev pub Small : Float → Type 0
Small nan = ⊥
Small (inf s) = ⊥
Small (fin s m e) = m * up e < 2048 * down e
