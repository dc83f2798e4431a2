-- A program's memory as a session, for any book: what the program's functions leave.
use Rattle.std.specs.Prelude.{◌≡◌, List, ℕ, ◌≤◌, length, take, drop}
use Rattle.hexlines.specs.Lines.{held}
use Rattle.hexlines.specs.Session.{Session}
use Rattle.hexlines.specs.declared.Line.{Line}

-- The book, the part of a line that came so far, and a buffer whose first `at` bytes wait to be written.
pub record Place (B : Type 0) : Type 0 where
  pub book : B
  pub line : Line
  pub at : ℕ
  pub out : List ℕ

abbrev pub session_of : {B : Type 0} → Place B → Session B
session_of p = record { book = p.book; part = held p.line; text = take p.at p.out }

-- From p to r, whose session is the given one: the buffer's bytes past the text are as they were.
pub record Moved {B : Type 0} (to : Session B) (p r : Place B) : Type 0 where
  pub session : session_of r ≡ to
  pub rest : drop r.at r.out ≡ drop r.at p.out
  pub size : length r.out ≡ length p.out
  pub from : p.at ≤ r.at
  pub within : r.at ≤ length r.out
