-- What the private functions promise each other: a buffer is written from place `at` on.
use Rattle.std.specs.Prelude.{ℕ, List}
use Rattle.ledger.specs.Book.{Columns}
use Rattle.ledger.specs.Claim.{Ledger}
use Rattle.hexlines.specs.Moves.{Place}
use Rattle.protocol.specs.Hear.{ledger}
use Rattle.lines.specs.declared.Progress.{Progress}

abbrev pub place : Progress → Columns → List ℕ → Place Ledger
place p c out = record { book = ledger p.state.book c; line = p.state.line; at = p.at; out = out }
