-- Document 01: "Exact comparisons read a finite f64 as a whole number over 2^1074." A reading of finite values only.
use Rattle.std.specs.Prelude.{ℕ, ◌*◌, ◌/◌, ◌^◌, ℤ, pos, neg_ℤ, nat_abs, ◌-ℤ◌, Float, if◌then◌else◌}
use Rattle.std.specs.Float.{nan, inf, fin}
use Rattle.std.specs.Float.Ieee.{up, down}

-- The magnitude of x is `units_of x` over 2^1074, the least float above 0.
abbrev pub units_of : Float → ℕ
units_of nan = 0
units_of (inf s) = 0
units_of (fin s m e) = m * up e * 2 ^ 1074 / down e

-- x is `whole_of x` over 2^1074.
abbrev pub whole_of : Float → ℤ
whole_of nan = pos 0
whole_of (inf s) = pos 0
whole_of (fin s m e) = if s then neg_ℤ (pos (units_of (fin s m e))) else pos (units_of (fin s m e))

-- The exact distance of x and y, over 2^1074.
unfoldable pub distance : Float → Float → ℕ
distance x y = nat_abs (whole_of x -ℤ whole_of y)
