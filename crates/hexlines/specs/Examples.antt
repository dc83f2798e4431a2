-- Document 01's example of the program, and lines that check 21 refuses.
use Rattle.std.specs.Prelude.{◌≡◌, List, [], ◌∷◌, ◌++◌, map, ℕ, Option, Some, None}
use Prim.Native.Char.{code}
use Prim.Native.String.{String, [] as none, ◌∷◌ as ◌then◌}
use Rattle.std.specs.Float.{nan}
use Rattle.floats.specs.Operators.{decimal}
use Rattle.hexlines.specs.Hex.{answer_line}
use Rattle.hexlines.specs.Frames.{frame_of}
use Rattle.hexlines.specs.Lines.{lines}
use Rattle.hexlines.specs.declared.Frame.{Frame}
use Rattle.hexlines.specs.declared.Frame.TheVariants.{Open, Call, Put, Vol, Read}

-- The bytes of a text.
abbrev pub bytes : String → List ℕ
bytes none = []
bytes (◌then◌ c s) = code c ∷ bytes s

-- The frame of a text.
abbrev pub says : String → Option Frame
says s = frame_of (bytes s)

pub record Example : Type 0 where
  -- the whole input, line by line
  pub input : map frame_of
      (lines
      (bytes "1040590000000000000000000000000000\n"
      ++ bytes "1340568000000000003FE00000000000003FD0000000000000\n"
      ++ bytes "13405B8000000000003FE00000000000003FE0000000000000\n"
      ++ bytes "137FF80000000000003FE00000000000003FD0000000000000\n"
      ++ bytes "2040590000000000003FE0000000000000\n"))
      ≡ Some (Open (decimal 100 1) (decimal 0 1))
      ∷ Some (Vol (decimal 90 1) (decimal 5 10) (decimal 25 100))
      ∷ Some (Vol (decimal 110 1) (decimal 5 10) (decimal 5 10))
      ∷ Some (Vol nan (decimal 5 10) (decimal 25 100))
      ∷ Some (Read (decimal 100 1) (decimal 5 10)) ∷ []
  -- the whole output, answer by answer
  pub output : answer_line 0 (decimal 0 1) ++ answer_line 0 (decimal 25 100) ++ answer_line 0 (decimal 5 10) ++ answer_line 7 (decimal 0 1)
      ++ answer_line 0 (decimal 375 1000)
      ≡ bytes "000000000000000000\n003FD0000000000000\n003FE0000000000000\n070000000000000000\n003FD8000000000000\n"
  -- the other kinds, other not-a-numbers and digits
  pub call : says "11405900000000000040590000000000003FF0000000000000" ≡ Some (Call (decimal 100 1) (decimal 100 1) (decimal 1 1))
  pub put : says "12405900000000000040590000000000003FF0000000000000" ≡ Some (Put (decimal 100 1) (decimal 100 1) (decimal 1 1))
  pub signed_blank : says "20FFF123456789ABCD7FF0000000000001" ≡ Some (Read nan nan)
  pub written_blank : answer_line 99 nan ≡ bytes "997FF8000000000000\n"
  -- wrong length, unknown kind, wrong character
  pub empty : says "" ≡ None
  pub short : says "104059000000000000000000000000000" ≡ None
  pub long : says "10405900000000000000000000000000000" ≡ None
  pub too_few : says "134056800000000000" ≡ None
  pub kind_10_long : says "1040568000000000003FE00000000000003FD0000000000000" ≡ None
  pub kind_13_short : says "1340590000000000003FE0000000000000" ≡ None
  pub kind_14 : says "1440568000000000003FE00000000000003FD0000000000000" ≡ None
  pub lower_case : says "13405b8000000000003FE00000000000003FE0000000000000" ≡ None
  pub return : says "2040590000000000003FE000000000000\r" ≡ None
  -- lines: an empty one, and a last one with and without its line feed
  pub three : lines (bytes "10\n\n20\n") ≡ bytes "10" ∷ [] ∷ bytes "20" ∷ []
  pub unfed : lines (bytes "10\n\n20") ≡ bytes "10" ∷ [] ∷ bytes "20" ∷ []
  pub nothing : lines (bytes "") ≡ []
  pub only_feed : lines (bytes "\n") ≡ [] ∷ []
