-- Document 01, 'Hexadecimal lines': the digits, the numbers and floats that they write, and the line of an answer. A line is a list of bytes.
use Rattle.std.specs.List.{list_all}
use Rattle.std.specs.Prelude.{Bool, ◌&&◌, ◌||◌, List, [], ◌∷◌, ◌++◌, ℕ, zero, suc, ◌+◌, ◌-◌, ◌*◌, ◌/◌, ◌%◌, ◌^◌, leb, take, drop, Float, if◌then◌else◌}
use Prim.Native.Char.{Char, code}
use Rattle.std.specs.Float.{binary64}
use Rattle.std.specs.Float.Ieee.{of_bits, to_bits}

-- A byte from one character to another, both included.
unfoldable pub between : Char → Char → ℕ → Bool
between lo hi c = leb (code lo) c && leb c (code hi)

-- "upper case": a digit is one of 0 to 9 and A to F.
unfoldable pub is_digit : ℕ → Bool
is_digit c = between "0" "9" c || between "A" "F" c

-- What a digit counts. Any other byte counts 0, but a line with such a byte is refused.
unfoldable pub digit_value : ℕ → ℕ
digit_value c = if between "0" "9" c then c - code "0" else (if between "A" "F" c then 10 + (c - code "A") else 0)

unfoldable pub all_digits : List ℕ → Bool
all_digits cs = list_all is_digit cs

-- The number that v and then the digits of a list write, the most significant first.
unfoldable pub value_after : ℕ → List ℕ → ℕ
value_after v [] = v
value_after v (c ∷ cs) = value_after (16 * v + digit_value c) cs

abbrev pub value : List ℕ → ℕ
value cs = value_after 0 cs

-- "two digits of kind, then 16 digits for each f64's bits": the float at place i, counted from 0. Every not-a-number pattern is not-a-number.
unfoldable pub float : ℕ → List ℕ → Float
float i line = of_bits binary64 (value (take 16 (drop (2 + 16 * i) line)))

-- The upper-case digit of a number below 16.
unfoldable pub digit : ℕ → ℕ
digit d = if leb d 9 then code "0" + d else code "A" + (d - 10)

-- The last k hexadecimal digits of v, the most significant first.
unfoldable pub digits : ℕ → ℕ → List ℕ
digits zero v = []
digits (suc k) v = digit (v / 16 ^ k % 16) ∷ digits k v

-- The last two decimal digits of n.
abbrev pub decimals : ℕ → List ℕ
decimals n = (code "0" + n / 10 % 10) ∷ (code "0" + n % 10) ∷ []

-- "Each line gets one line, ended by a line feed: two decimal digits of answer (00 for done) and 16 upper-case hexadecimal ones of value".
-- A not-a-number is written 7FF8000000000000.
unfoldable pub answer_line : ℕ → Float → List ℕ
answer_line n x = decimals n ++ digits 16 (to_bits binary64 x) ++ code "\n" ∷ []
