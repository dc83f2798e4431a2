-- The moves of the program: the laws of a session for this book, and the line that is held. Assumes nothing.
use Rattle.std.specs.Prelude.{Option}
use mathlib.Core.Path.{◌≡◌, refl, sym, ap, ◌∙◌}
use mathlib.Core.List.{List, [], ◌∷◌}
use Prim.Native.Nat.{ℕ, ◌+◌, ◌≤◌, ◌<◌}
use native.Mathlib.Omega.{arith}
use lib.Dec.{eqb}
use lib.ListN.{length, take, drop}
use lib.Seq.{paste, drop-drop}
use Rattle.floats.proofs.Tests.{split}
use Rattle.ledger.specs.Book.{Columns}
use Rattle.ledger.specs.Claim.{Ledger}
use Rattle.hexlines.specs.Hex.{answer_line}
use Rattle.hexlines.specs.Frames.{frame_of}
use Rattle.hexlines.specs.Lines.{held, no_line, pushed, cap, through, line_in, taken, feed_in, feeds}
use Rattle.hexlines.specs.Session.{Session, feed, finish}
use Rattle.hexlines.specs.Moves.{Place, session_of, Moved}
use Rattle.hexlines.specs.declared.Frame.{Frame}
use Rattle.hexlines.specs.declared.Line.{Line}
use Rattle.hexlines.specs.declared.Taken.{Taken}
use Rattle.hexlines.proofs.Moves.{moved_ended, moved_none, moved_last, Going, with_line, going_line, going_rest}
use Rattle.protocol.specs.Hear.{ledger, hears, heard_of}
use Rattle.protocol.specs.Calls.{line_step, line_after}
use Rattle.protocol.specs.Moves.{LineEnded}
use Rattle.protocol.specs.declared.Said.{Said}

-- ---- a line

pub line_ended : (p : Place Ledger) (f : Option Frame) (r : Said) (c : Columns) (t out : List ℕ) (line : Line) → f ≡ frame_of (held p.line)
    → heard_of r c ≡ hears p.book f → t ≡ answer_line (heard_of r c).number (heard_of r c).value → out ≡ paste p.out p.at t 19 → line ≡ no_line
    → p.at + 19 ≤ length p.out →
    LineEnded p (record { book = ledger r.book c; line = line; at = p.at + 19; out = out })
line_ended p f r c t out line e h w o n room =
    rw n
    (record {
      moved = moved_ended hears p (heard_of r c) out (h ∙ ap (hears p.book) e) (o ∙ ap (λ (z : List ℕ). paste p.out p.at z 19) w) room;
      held = refl;
    })

-- ---- the line that is held after a chunk

after_line : (cs : List ℕ) (l : Line) → 0 < feeds cs → line_after no_line (drop (through cs) cs) ≡ line_after l cs
unfolding line_after line_step feeds feed_in through
after_line [] l h = absurd (omega arith)
after_line (c ∷ cs) l h =
    split (eqb c 10)
    (λ t. rw t refl)
    (λ t.
    let g : 0 < feeds cs = omega (arith, rw t at h) in
    rw t (after_line cs (pushed l c) g))

after_rest : (cs : List ℕ) (l : Line) → feeds cs ≡ 0 → line_in l cs ≡ line_after l cs
unfolding line_after line_step feeds feed_in line_in
after_rest [] l h = refl
after_rest (c ∷ cs) l h =
    split (eqb c 10)
    (λ t. absurd (omega (arith, rw t at h)))
    (λ t.
    let g : feeds cs ≡ 0 = omega (arith, rw t at h) in
    rw t (after_rest cs (pushed l c) g))

-- ---- a chunk, by a loop over its lines

pub record Hearing (p : Place Ledger) (chunk : List ℕ) (t : Place Ledger) (i n : ℕ) : Type 0 where
  pub going : Going hears p chunk t i n
  pub held : line_after t.line (drop i chunk) ≡ line_after p.line chunk

-- x is what is taken of the chunk next
pub hearing_line : (p t r : Place Ledger) (chunk : List ℕ) (i n : ℕ) (x : Taken) → x ≡ taken t.line chunk i → n < feeds chunk → Hearing p chunk t i n →
    LineEnded (with_line hears t x.line) r → Hearing p chunk r x.next (n + 1)
unfolding taken
hearing_line p t r chunk i n x e h g ended =
    let cs = drop i chunk in
    let some : 0 < feeds cs = omega (arith, g.going.left) in
    let last : LineEnded (with_line hears t (taken t.line chunk i).line) r = rw e at ended in
    rw e
    (record {
      going = going_line hears p t r chunk i n some g.going last.moved last.held;
      held = rw (last.held, ← drop-drop (through cs) i chunk) (after_line cs t.line some ∙ g.held);
    })

pub record Goes (to : Session Ledger) (line : Line) (p r : Place Ledger) : Type 0 where
  pub moved : Moved to p r
  pub held : r.line ≡ line

pub hearing_rest : (p t : Place Ledger) (chunk : List ℕ) (i n : ℕ) (x : Taken) → x ≡ taken t.line chunk i → feeds chunk ≤ n → Hearing p chunk t i n →
    Goes (feed hears (session_of p) chunk) (line_after p.line chunk) p (with_line hears t x.line)
unfolding taken
hearing_rest p t chunk i n x e h g =
    let none : feeds (drop i chunk) ≡ 0 = omega (arith, g.going.left) in
    rw e (record { moved = going_rest hears p t chunk i n none g.going; held = after_rest (drop i chunk) t.line none ∙ g.held })

-- ---- the end of the input

pub goes_last : (p r : Place Ledger) → length p.line.bytes ≡ cap → (p.line.seen ≡ 0 → ⊥) → LineEnded p r → Goes (finish hears (session_of p)) no_line p r
goes_last p r k n g = record { moved = moved_last hears p r k n g.moved; held = g.held }

pub goes_none : (p : Place Ledger) → p.line.seen ≡ 0 → p.at ≤ length p.out → Goes (finish hears (session_of p)) no_line p (with_line hears p no_line)
goes_none p e w =
    let m = moved_none hears p e w in
    record {
      moved =
          record {
            session = ap (λ (z : List ℕ). record { book = p.book; part = z; text = take p.at p.out })
                (sym (ap (λ (k : ℕ). take k p.line.bytes) e)) ∙ m.session;
            rest = refl;
            size = refl;
            from = m.from;
            within = w;
          };
      held = refl;
    }
