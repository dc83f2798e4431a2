-- How much text a chunk and the end of the input lead to, and so what room they need. Assumes nothing.
use mathlib.Core.Path.{◌≡◌, ◌∙◌}
use mathlib.Core.Bool.{true}
use mathlib.Core.List.{List, [], ◌∷◌}
use Prim.Native.Nat.{ℕ, ◌+◌, ◌*◌, ◌/◌, ◌<◌, ◌≤◌}
use native.Mathlib.Omega.{arith}
use borrow.Author.Tests.{lt-ltb, le-ltb}
use lib.Dec.{eqb, ltb}
use lib.ListN.{length}
use Rattle.floats.proofs.Tests.{split}
use Rattle.ledger.specs.Book.{Columns}
use Rattle.ledger.specs.Claim.{Ledger}
use Rattle.hexlines.specs.Lines.{feed_in, feeds}
use Rattle.hexlines.specs.Session.{Session, step, feed}
use Rattle.hexlines.proofs.Moves.{text_ended}
use Rattle.protocol.specs.Hear.{hears}
use Rattle.protocol.specs.Calls.{Left, if_room}
use Rattle.protocol.specs.declared.State.{State}

abbrev at : Ledger → List ℕ → List ℕ → Session Ledger
at b p t = record { book = b; part = p; text = t }

step_size : (s : Session Ledger) (c k : ℕ) → length (step hears s c).text + 19 * k ≡ length s.text + 19 * (feed_in c + k)
unfolding step feed_in
step_size s c k = split (eqb c 10) (λ t. rw t (omega (arith, text_ended hears s))) (λ t. rw t (omega arith))

-- 19 bytes for each line that a chunk ends.
pub fed_size : (s : Session Ledger) (bs : List ℕ) → length (feed hears s bs).text ≡ length s.text + 19 * feeds bs
unfolding feed feeds
fed_size s [] = omega arith
fed_size s (c ∷ cs) = fed_size (step hears s c) cs ∙ step_size s c (feeds cs)

-- ---- room

-- The code divides, so that no product can wrap.
pub too_short : (size n : ℕ) → size / 19 < n → ltb size (19 * n) ≡ true
too_short size n h = lt-ltb size (19 * n) (omega arith)

pub with_room : (n : ℕ) (s : State) (c : Columns) (out : List ℕ) (x : Left) → 19 * n ≤ length out → if_room n s c out x ≡ x
unfolding if_room
with_room n s c out x h = rw (le-ltb (length out) (19 * n) h)
