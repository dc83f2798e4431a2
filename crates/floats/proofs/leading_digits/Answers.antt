-- `floats::leading_digits`: a field of 0 is a subnormal, whose digits are moved up; any other has its leading digit added (Digits). Assumes nothing.
use Rattle.std.proofs.Common.{◌≡◌, ◌≤◌, ◌<◌, true, not, T, arith}
use lib.Count.{count_leading_zeros}
use lib.Ieee.{Float, nan, inf, fin, binary64, fits, is_nan, to_bits}
use lib.Ieee.Bits.{to_bits-lt}
use lib.Ieee.Positive.{positive}
use Rattle.floats.proofs.Tests.{holds}
use Rattle.floats.proofs.Digits.{low_pos, low_digits, high_digits, zeros_ge, zeros_le}
use Rattle.floats.proofs.leading_digits.Goals as goal

no_nan : (v : Float) → T (positive v) → T (not (is_nan v))
unfolding is_nan
no_nan nan p = absurd p
no_nan (inf s) p = absurd p
no_nan (fin s m e) p = tt

-- the leading zeros of a subnormal's pattern
module _ (v : Float) (f : fits binary64 v ≡ true) (p : T (positive v)) (low : to_bits binary64 v < 4503599627370496) where
  zeros : (12 ≤ count_leading_zeros 64 (to_bits binary64 v)) × (count_leading_zeros 64 (to_bits binary64 v) ≤ 64)
  zeros =
      let P = low_pos v (holds _ f) p low in
      (zeros_ge (to_bits binary64 v) P low, zeros_le (to_bits binary64 v) P low)

pub float_to_bits-b : goal.float_to_bits-b
float_to_bits-b c = no_nan c.args.v c.requires

pub overflow_sub-result : goal.overflow_sub-result
overflow_sub-result c = let z = zeros c.args.v c.well_formed.0.1 c.requires (omega arith) in omega arith

pub overflow_add-result-else-field-eq0 : goal.overflow_add-result-else-field-eq0
overflow_add-result-else-field-eq0 c = let l = to_bits-lt binary64 c.args.v (holds _ c.well_formed.0.1) in omega arith

pub returns-then-field-eq0 : goal.returns-then-field-eq0
returns-then-field-eq0 c = low_digits c.args.v (holds _ c.well_formed.0.1) c.requires (omega arith)

pub returns-else-field-eq0 : goal.returns-else-field-eq0
returns-else-field-eq0 c = high_digits c.args.v (holds _ c.well_formed.0.1) c.requires (omega arith)
