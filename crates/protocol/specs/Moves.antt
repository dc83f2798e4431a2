-- What the program's steps promise each other: a buffer is written from place `at` on.
use Rattle.std.specs.Prelude.{◌≡◌}
use Rattle.ledger.specs.Claim.{Ledger}
use Rattle.hexlines.specs.Lines.{no_line}
use Rattle.hexlines.specs.Session.{ended}
use Rattle.hexlines.specs.Moves.{Place, session_of, Moved}
use Rattle.protocol.specs.Hear.{hears}

-- From p to r: its line has ended, and another is held, of which nothing came yet.
pub record LineEnded (p r : Place Ledger) : Type 0 where
  pub moved : Moved (ended hears (session_of p)) p r
  pub held : r.line ≡ no_line
