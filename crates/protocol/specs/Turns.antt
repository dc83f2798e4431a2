-- The program as a run of turns, one for each read: a turn gets the state, the columns and the buffer as the last one left them.
use Rattle.std.specs.Prelude.{ℕ, List, [], ◌∷◌, ◌++◌, take, Result, Ok, Err, if◌then◌else◌}
use Rattle.ledger.specs.Book.{Columns}
use Rattle.protocol.specs.Calls.{Left, Turned, turned}
use Rattle.protocol.specs.declared.State.{State}
use Rattle.protocol.specs.declared.Short.{Short}

-- The bytes that a call wrote.
abbrev pub count_of : Result ℕ Short → ℕ
count_of (Ok count) = count
count_of (Err short) = 0

-- The answers had room.
abbrev pub HadRoom : Result ℕ Short → Type 0
HadRoom (Ok count) = Unit {0}
HadRoom (Err short) = ⊥

abbrev pub text_of : Left → List ℕ
text_of r = take (count_of r.fed.text) r.out

-- What the program holds between two turns.
pub record Held : Type 0 where
  pub state : State
  pub columns : Columns
  pub out : List ℕ

abbrev pub holds : State → Columns → List ℕ → Held
holds s c out = record { state = s; columns = c; out = out }

abbrev pub turn_on : Held → List ℕ → Turned
turn_on h part = turned h.state h.columns part h.out

abbrev pub keeps : Left → Held
keeps r = holds r.fed.state r.columns r.out

-- What it holds after turns on these parts of its input.
unfoldable pub held_after : Held → List (List ℕ) → Held
held_after h [] = h
held_after h (part ∷ parts) = held_after (keeps (turn_on h part).left) parts

-- What it writes: the text of each turn, up to the one that says to read no more.
unfoldable pub written : Held → List (List ℕ) → List ℕ
written h [] = []
written h (part ∷ parts) =
    let t = turn_on h part in
    text_of t.left ++ (if t.more then written (keeps t.left) parts else [])
