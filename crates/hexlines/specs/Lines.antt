-- Document 01, 'Hexadecimal lines': "The program reads one frame a line (a line feed ends it; the last may lack one)".
use Rattle.std.specs.Prelude.{Bool, not, List, [], ◌∷◌, ◌++◌, ℕ, suc, ◌+◌, eqb, ltb, take, drop, set, replicate, if◌then◌else◌}
use Rattle.std.specs.List.{list_all}
use Prim.Native.Char.{code}
use Rattle.hexlines.specs.declared.Line.{Line}
use Rattle.hexlines.specs.declared.Taken.{Taken}

-- What stands after the last line feed is a line, unless there is nothing.
unfoldable pub unended : List ℕ → List (List ℕ)
unended [] = []
unended (c ∷ cs) = (c ∷ cs) ∷ []

-- The lines of bytes, where `part` stands already in the first of them. An empty line between two line feeds is a line.
unfoldable pub lines_after : List ℕ → List ℕ → List (List ℕ)
lines_after part [] = unended part
lines_after part (c ∷ cs) = if eqb c (code "\n") then part ∷ lines_after [] cs else lines_after (part ++ c ∷ []) cs

abbrev pub lines : List ℕ → List (List ℕ)
lines input = lines_after [] input

-- ---- the way back, which no code takes: lines, each ended by a line feed. `Claims` has lines (fed ls) ≡ ls.

unfoldable pub no_feed : List ℕ → Bool
no_feed cs = list_all (λ c. not (eqb c (code "\n"))) cs

unfoldable pub no_feeds : List (List ℕ) → Bool
no_feeds ls = list_all no_feed ls

unfoldable pub fed : List (List ℕ) → List ℕ
fed [] = []
fed (l ∷ ls) = l ++ code "\n" ∷ fed ls

-- ---- the part of a line that the code holds: its first 51 bytes, one more than the longest frame has

abbrev pub cap : ℕ
cap = 51

abbrev pub held : Line → List ℕ
held line = take line.seen line.bytes

-- Nothing of a line.
abbrev pub no_line : Line
no_line = record { bytes = replicate cap 0; seen = 0 }

-- One byte more of a line. The 52nd and later ones are not held: the line is too long already.
unfoldable pub pushed : Line → ℕ → Line
pushed line b =
    if ltb line.seen cap then record { bytes = set line.bytes line.seen b; seen = line.seen + 1 } else line

-- ---- bytes taken a line at a time

-- How many bytes the first line has, its line feed among them.
unfoldable pub through : List ℕ → ℕ
through [] = 0
through (c ∷ cs) = if eqb c (code "\n") then 1 else suc (through cs)

-- The line that is held after them.
unfoldable pub line_in : Line → List ℕ → Line
line_in line [] = line
line_in line (c ∷ cs) = if eqb c (code "\n") then line else line_in (pushed line c) cs

-- What is taken from a place on.
unfoldable pub taken : Line → List ℕ → ℕ → Taken
unfolding through line_in
taken line bytes from = record { line = line_in line (drop from bytes); next = from + through (drop from bytes) }

-- How many lines the bytes end.
unfoldable pub feed_in : ℕ → ℕ
feed_in c = if eqb c (code "\n") then 1 else 0

unfoldable pub feeds : List ℕ → ℕ
unfolding feed_in
feeds [] = 0
feeds (c ∷ cs) = feed_in c + feeds cs
