-- What the calls of this crate promise: the answer, the record, and every lent entry.
use Rattle.std.specs.Prelude.{ℕ, ◌*◌, Bool, true, false, List, [], ◌∷◌, ◌++◌, eqb, ltb, length, drop, Ok, Err, if◌then◌else◌}
use Rattle.std.specs.declared.ops.ControlFlow.{ControlFlow}
use Rattle.std.specs.declared.ops.ControlFlow.TheVariants.{Continue, Break}
use Prim.Native.Char.{code}
use Rattle.ledger.specs.Book.{Columns, zero_book}
use Rattle.ledger.specs.Claim.{Ledger}
use Rattle.ledger.specs.declared.Book.{Book}
use Rattle.hexlines.specs.Lines.{unended, held, no_line, pushed, feeds}
use Rattle.hexlines.specs.Session.{Session, feed, finish}
use Rattle.hexlines.specs.declared.Line.{Line}
use Rattle.protocol.specs.Hear.{ledger, hears}
use Rattle.protocol.specs.declared.State.{State}
use Rattle.protocol.specs.declared.Fed.{Fed}

-- ---- a stream of lines, a chunk at a time

-- "Before any 10 the record is zeros."
abbrev pub fresh : State
fresh = record { book = zero_book; line = no_line }

-- The state with its columns, and no text that waits to be written.
abbrev pub session : State → Columns → Session Ledger
session s c = record { book = ledger s.book c; part = held s.line; text = [] }

-- The line that is held after a byte, and after a chunk's bytes.
unfoldable pub line_step : Line → ℕ → Line
line_step line c = if eqb c (code "\n") then no_line else pushed line c

unfoldable pub line_after : Line → List ℕ → Line
unfolding line_step
line_after line [] = line
line_after line (c ∷ cs) = line_after (line_step line c) cs

-- What a call leaves: its answer, the columns and the lent buffer.
pub record Left : Type 0 where
  pub fed : Fed
  pub columns : Columns
  pub out : List ℕ

abbrev pub left : Fed → Columns → List ℕ → Left
left r c out = record { fed = r; columns = c; out = out }

abbrev pub state : Book → Line → State
state b line = record { book = b; line = line }

-- The text stands in the front of the buffer, and the rest of it is as it was.
abbrev pub wrote : Ledger → Line → List ℕ → List ℕ → Left
wrote l line text out =
    left (record { state = state l.book line; text = Ok (length text) }) l.columns (text ++ drop (length text) out)

-- The buffer must have room for the answers of n lines, 19 bytes each: else nothing is heard or written, and the answer says how many there are.
unfoldable pub if_room : ℕ → State → Columns → List ℕ → Left → Left
if_room n s c out x = if ltb (length out) (19 * n) then left (record { state = s; text = Err (record { lines = n }) }) c out else x

-- A chunk is heard.
unfoldable pub fed : State → Columns → List ℕ → List ℕ → Left
unfolding if_room
fed s c chunk out =
    let t = feed hears (session s c) chunk in
    if_room (feeds chunk) s c out (wrote t.book (line_after s.line chunk) t.text out)

-- The input ends: a part of a line is the last line.
unfoldable pub finished : State → Columns → List ℕ → Left
unfolding if_room
finished s c out =
    let t = finish hears (session s c) in
    if_room (length (unended (held s.line))) s c out (wrote t.book no_line t.text out)

-- ---- a turn of the program

-- What a turn leaves, and whether the program reads on.
pub record Turned : Type 0 where
  pub left : Left
  pub more : Bool

abbrev pub turn_left : ControlFlow Fed Fed → Columns → List ℕ → Turned
turn_left (Continue fed) c out = record { left = left fed c out; more = true }
turn_left (Break fed) c out = record { left = left fed c out; more = false }

-- A read that gives nothing is the end of the input, and any other a chunk of it.
unfoldable pub turned : State → Columns → List ℕ → List ℕ → Turned
turned s c [] out = record { left = finished s c out; more = false }
turned s c (b ∷ bs) out = record { left = fed s c (b ∷ bs) out; more = true }
