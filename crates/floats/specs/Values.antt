-- Magnitude, minimum, sign and finiteness of a float. `finite` is the library's: neither an infinity nor a not-a-number.
use Rattle.std.specs.Prelude.{Bool, false, not, Float, if◌then◌else◌}
use Rattle.std.specs.Float.{nan, inf, fin}
use Rattle.std.specs.Float.Ieee.{neg, is_nan}
pub use Rattle.std.specs.Float.Ieee.Scale.{finite}
use Rattle.floats.specs.Operators.{◌≺◌}

-- Rust's f64::abs: the sign is cleared.
unfoldable pub magnitude : Float → Float
magnitude nan = nan
magnitude (inf s) = inf false
magnitude (fin s m e) = fin false m e

-- Document 01: "f64 minimum returns the other operand when one is not-a-number." Of two equal operands it is the first.
unfoldable pub minimum : Float → Float → Float
minimum x y = if is_nan x then y else (if is_nan y then x else (if y ≺ x then y else x))

-- Whether the sign is set. The model of floats has one not-a-number, without a sign: it counts as clear.
unfoldable pub negative : Float → Bool
negative nan = false
negative (inf s) = s
negative (fin s m e) = s

-- Rust's f64::copysign: the magnitude of x with the sign of y.
unfoldable pub copysign : Float → Float → Float
copysign x y = if negative y then neg (magnitude x) else magnitude x

-- Finite, with the sign clear.
abbrev pub not_negative : Float → Bool
not_negative nan = false
not_negative (inf s) = false
not_negative (fin s m e) = not s
