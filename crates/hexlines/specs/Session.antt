-- Document 01, 'Hexadecimal lines', over any book: frames are heard one after the other, and each answer's line is written. A book of type B
-- enters by one function only, `hear`.
use Rattle.std.specs.Prelude.{List, [], ◌∷◌, ◌++◌, map, ℕ, eqb, length, take, Float, Option, if◌then◌else◌}
use Prim.Native.Char.{code}
use Rattle.hexlines.specs.Hex.{answer_line}
use Rattle.hexlines.specs.Frames.{frame_of}
use Rattle.hexlines.specs.Lines.{lines, cap}
use Rattle.hexlines.specs.declared.Frame.{Frame}

-- What hearing a line leads to, its frame or none: the book after it, the number of the answer (0 for done) and its value.
pub record Told (B : Type 0) : Type 0 where
  pub book : B
  pub number : ℕ
  pub value : Float

-- The answers' lines, in order.
unfoldable pub answers : {B : Type 0} → (B → Option Frame → Told B) → B → List (Option Frame) → List ℕ
answers hear b [] = []
answers hear b (f ∷ fs) = answer_line (hear b f).number (hear b f).value ++ answers hear (hear b f).book fs

-- The book after the last of them.
unfoldable pub book_after : {B : Type 0} → (B → Option Frame → Told B) → B → List (Option Frame) → B
book_after hear b [] = b
book_after hear b (f ∷ fs) = book_after hear (hear b f).book fs

-- "Each line gets one line": what the program writes on an input, whole, and the book that it leaves.
abbrev pub output : {B : Type 0} → (B → Option Frame → Told B) → B → List ℕ → List ℕ
output hear b input = answers hear b (map frame_of (lines input))

abbrev pub book_left : {B : Type 0} → (B → Option Frame → Told B) → B → List ℕ → B
book_left hear b input = book_after hear b (map frame_of (lines input))

-- ---- the same a byte at a time

-- The book, the part of a line that came so far (no more of it than decides), and the text that waits to be written.
pub record Session (B : Type 0) : Type 0 where
  pub book : B
  pub part : List ℕ
  pub text : List ℕ

-- A line ends: its frame is heard.
unfoldable pub ended : {B : Type 0} → (B → Option Frame → Told B) → Session B → Session B
ended hear s =
    let h = hear s.book (frame_of s.part) in
    record { book = h.book; part = []; text = s.text ++ answer_line h.number h.value }

unfoldable pub step : {B : Type 0} → (B → Option Frame → Told B) → Session B → ℕ → Session B
step hear s c =
    if eqb c (code "\n") then ended hear s else record { book = s.book; part = take cap (s.part ++ c ∷ []); text = s.text }

unfoldable pub feed : {B : Type 0} → (B → Option Frame → Told B) → Session B → List ℕ → Session B
feed hear s [] = s
feed hear s (c ∷ cs) = feed hear (step hear s c) cs

-- The input ends: a part of a line is the last line.
unfoldable pub finish : {B : Type 0} → (B → Option Frame → Told B) → Session B → Session B
finish hear s = if eqb (length s.part) 0 then s else ended hear s

-- The input comes in chunks. Each is fed, and its text is written before the next is read. This is the session at the end, and its text is all
-- that was written.
unfoldable pub run : {B : Type 0} → (B → Option Frame → Told B) → B → List ℕ → List (List ℕ) → Session B
run hear b part [] = finish hear (record { book = b; part = part; text = [] })
run hear b part (chunk ∷ chunks) =
    let s = feed hear (record { book = b; part = part; text = [] }) chunk in
    let r = run hear s.book s.part chunks in
    record { book = r.book; part = r.part; text = s.text ++ r.text }

abbrev pub joined : List (List ℕ) → List ℕ
joined [] = []
joined (chunk ∷ chunks) = chunk ++ joined chunks
