-- What the private functions reach, as what the public ones leave. Assumes nothing.
use Rattle.std.specs.Prelude.{Ok}
use mathlib.Core.Path.{◌≡◌, sym, ap, ◌∙◌}
use mathlib.Core.List.{List, ◌++◌}
use Prim.Native.Nat.{ℕ, ◌/◌, ◌≤◌}
use native.Mathlib.Omega.{arith}
use lib.ListN.{length, drop, take-append-drop}
use Rattle.ledger.specs.Book.{Columns}
use Rattle.ledger.specs.Claim.{Ledger}
use Rattle.hexlines.specs.Lines.{unended, held, no_line, feeds}
use Rattle.hexlines.specs.Session.{Session, feed, finish}
use Rattle.hexlines.specs.Moves.{Place}
use Rattle.hexlines.specs.declared.Line.{Line}
use Rattle.hexlines.proofs.Moves.{text_size}
use Rattle.protocol.specs.Hear.{ledger, hears}
use Rattle.protocol.specs.Calls.{session, line_after, state, Left, left, wrote, fed, finished}
use Rattle.protocol.specs.declared.State.{State}
use Rattle.protocol.proofs.Going.{Goes}
use Rattle.protocol.proofs.Lengths.{with_room}

-- Where a call begins, and what it leaves.
abbrev pub begun : State → Columns → List ℕ → Place Ledger
begun s c out = record { book = ledger s.book c; line = s.line; at = 0; out = out }

abbrev pub leaves : Place Ledger → Left
leaves p = left (record { state = state p.book.book p.line; text = Ok p.at }) p.book.columns p.out

all_written : (to : Session Ledger) (line : Line) (p r : Place Ledger) → Goes to line p r → leaves r ≡ wrote to.book line to.text p.out
all_written to line p r g =
    let m = g.moved in
    let s = m.session in
    let n : r.at ≡ length to.text = text_size hears to p r m in
    let written : r.out ≡ to.text ++ drop (length to.text) p.out =
    sym (take-append-drop r.at r.out) ∙ ap (λ (z : List ℕ). z ++ drop r.at r.out) (ap (λ (z : Session Ledger). z.text) s)
    ∙ ap (λ (z : List ℕ). to.text ++ z) (m.rest ∙ ap (λ (k : ℕ). drop k p.out) n) in
    rw (ap (λ (z : Session Ledger). z.book) s, g.held, n, written)

pub chunk_fed : (s : State) (c : Columns) (chunk out : List ℕ) (n : ℕ) (r : Place Ledger) → n ≡ feeds chunk → n ≤ length out / 19 →
    Goes (feed hears (session s c) chunk) (line_after s.line chunk) (begun s c out) r → leaves r ≡ fed s c chunk out
unfolding fed
chunk_fed s c chunk out n r e h to =
    all_written (feed hears (session s c) chunk) (line_after s.line chunk) (begun s c out) r to
    ∙ sym (with_room (feeds chunk) s c out _ (omega arith))

pub end_finished : (s : State) (c : Columns) (out : List ℕ) (n : ℕ) (r : Place Ledger) → n ≡ length (unended (held s.line)) → n ≤ length out / 19 →
    Goes (finish hears (session s c)) no_line (begun s c out) r → leaves r ≡ finished s c out
unfolding finished
end_finished s c out n r e h to =
    all_written (finish hears (session s c)) no_line (begun s c out) r to
    ∙ sym (with_room (length (unended (held s.line))) s c out _ (omega arith))
