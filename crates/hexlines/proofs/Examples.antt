-- The examples of specs/Examples.antt, each computed. Assumes nothing.
use mathlib.Core.Path.{refl}
use lib.Ieee.{of_bits, to_bits, round}
use Rattle.hexlines.specs.Hex.{between, is_digit, digit_value, all_digits, value_after, float, digit, digits, answer_line}
use Rattle.hexlines.specs.Frames.{is_frame, frame_of}
use Rattle.hexlines.specs.Lines.{unended, lines_after}
use Rattle.hexlines.specs.Examples.{Example}

pub example : Example
unfolding of_bits to_bits round between is_digit digit_value all_digits value_after float digit digits answer_line is_frame frame_of unended lines_after
example =
    record {
      input = refl;
      output = refl;
      call = refl;
      put = refl;
      signed_blank = refl;
      written_blank = refl;
      empty = refl;
      short = refl;
      long = refl;
      too_few = refl;
      kind_10_long = refl;
      kind_13_short = refl;
      kind_14 = refl;
      lower_case = refl;
      return = refl;
      three = refl;
      unfed = refl;
      nothing = refl;
      only_feed = refl;
    }
