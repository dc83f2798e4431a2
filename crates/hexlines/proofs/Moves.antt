-- The moves of a program over any book, as laws on sessions: a line, a chunk, the end of the input. Assumes nothing.
use Rattle.std.specs.Prelude.{Option}
use mathlib.Core.Path.{◌≡◌, refl, sym, ap, ◌∙◌}
use mathlib.Core.List.{List, ◌++◌}
use Prim.Native.Nat.{ℕ, ◌+◌, ◌-◌, ◌*◌, ◌<◌, ◌≤◌}
use native.Mathlib.Omega.{arith}
use borrow.Author.Tests.{eq-eqb, ne_eqb}
use lib.ListN.{length, take, drop, length-take, length-append}
use lib.Seq.{paste, take-paste, drop-paste, length-paste, drop-drop, take_all, length-take-le}
use Rattle.hexlines.specs.Hex.{answer_line}
use Rattle.hexlines.specs.Frames.{frame_of}
use Rattle.hexlines.specs.Lines.{held, no_line, cap, through, line_in, taken, feeds}
use Rattle.hexlines.specs.Session.{Told, Session, feed, finish, ended}
use Rattle.hexlines.specs.Moves.{Place, session_of, Moved}
use Rattle.hexlines.specs.declared.Frame.{Frame}
use Rattle.hexlines.specs.declared.Line.{Line}
use Rattle.hexlines.proofs.Sizes.{answer_size}
use Rattle.hexlines.proofs.Taking.{line_fed, rest_fed, feeds_through}

drop_more : (a b : List ℕ) (m n : ℕ) → m ≤ n → drop m a ≡ drop m b → drop n a ≡ drop n b
drop_more a b m n h e =
    let k : m + (n - m) ≡ n = omega arith in
    ap (λ (z : ℕ). drop z a) (sym k) ∙ sym (drop-drop (n - m) m a) ∙ ap (drop (n - m)) e ∙ drop-drop (n - m) m b ∙ ap (λ (z : ℕ). drop z b) k

module _ {B : Type 0} (hear : B → Option Frame → Told B) where
  abbrev at : B → List ℕ → List ℕ → Session B
  at b p t = record { book = b; part = p; text = t }

  same : {b b' : B} {p p' t t' : List ℕ} → b ≡ b' → p ≡ p' → t ≡ t' → at b p t ≡ at b' p' t'
  same e f g = rw (e, f, g)

  -- ---- a line

  -- A line has ended: the book heard its frame, the answer stands behind the text, and the line is empty.
  pub moved_ended : (p : Place B) (h : Told B) (out : List ℕ) → h ≡ hear p.book (frame_of (held p.line)) →
      out ≡ paste p.out p.at (answer_line h.number h.value) 19 → p.at + 19 ≤ length p.out →
      Moved (ended hear (session_of p)) p (record { book = h.book; line = no_line; at = p.at + 19; out = out })
  unfolding ended
  moved_ended p h out e o room =
      let l = answer_line h.number h.value in
      let a : p.at ≤ length p.out = omega arith in
      let k : 19 ≤ length l = rw (answer_size h.number h.value) (omega arith) in
      let n : length out ≡ length p.out = ap length o ∙ length-paste p.out p.at l 19 room k in
      record {
        session = same (ap (λ (z : Told B). z.book) e) refl
            (ap (take (p.at + 19)) o ∙ take-paste p.out p.at l 19 a k
            ∙ ap (λ (z : List ℕ). take p.at p.out ++ z) (take_all 19 l (rw (answer_size h.number h.value) (omega arith)))
            ∙ ap (λ (z : Told B). take p.at p.out ++ answer_line z.number z.value) e);
        rest = ap (drop (p.at + 19)) o ∙ drop-paste p.out p.at l 19 a k;
        size = n;
        from = omega arith;
        within = rw n room;
      }

  -- ---- how much text waits

  pub text_ended : (s : Session B) → length (ended hear s).text ≡ length s.text + 19
  unfolding ended
  text_ended s =
      let h = hear s.book (frame_of s.part) in
      rw (length-append s.text (answer_line h.number h.value), answer_size h.number h.value)

  -- How much text waits, of a place that a move led to.
  pub text_size : (to : Session B) (p r : Place B) → Moved to p r → r.at ≡ length to.text
  text_size to p r m = sym (length-take-le r.at r.out m.within) ∙ ap (λ (z : Session B). length z.text) m.session

  pub at_ended : (p r : Place B) → p.at ≤ length p.out → Moved (ended hear (session_of p)) p r → r.at ≡ p.at + 19
  at_ended p r w m = omega (arith, text_size (ended hear (session_of p)) p r m, text_ended (session_of p), length-take-le p.at p.out w)

  -- ---- a chunk, by a loop over its lines: from p on, n lines heard and the place i reached, the program is at t

  pub record Going (p : Place B) (chunk : List ℕ) (t : Place B) (i n : ℕ) : Type 0 where
    pub to_come : feed hear (session_of t) (drop i chunk) ≡ feed hear (session_of p) chunk
    pub left : n + feeds (drop i chunk) ≡ feeds chunk
    pub rest : drop t.at t.out ≡ drop t.at p.out
    pub size : length t.out ≡ length p.out
    pub counted : t.at ≡ p.at + 19 * n
    pub within : t.at ≤ length t.out
    pub bytes : length t.line.bytes ≡ cap

  abbrev pub with_line : Place B → Line → Place B
  with_line t l = record { book = t.book; line = l; at = t.at; out = t.out }

  -- one line more: it is taken up to its line feed, and ends
  pub going_line : (p t r : Place B) (chunk : List ℕ) (i n : ℕ) → 0 < feeds (drop i chunk) → Going p chunk t i n →
      (let next = with_line t (taken t.line chunk i).line in Moved (ended hear (session_of next)) next r) → r.line ≡ no_line →
      Going p chunk r (taken t.line chunk i).next (n + 1)
  unfolding taken
  going_line p t r chunk i n h g m e =
      let cs = drop i chunk in
      let next = with_line t (line_in t.line cs) in
      let at = at_ended next r g.within m in
      let more = drop-drop (through cs) i chunk in
      record {
        to_come = ap (λ (z : Session B). feed hear z (drop (i + through cs) chunk)) m.session
            ∙ ap (feed hear (ended hear (session_of next))) (sym more) ∙ line_fed hear cs (session_of t) t.line g.bytes refl h ∙ g.to_come;
        left = rw (sym more) (omega (arith, g.left, feeds_through cs h));
        rest = m.rest ∙ drop_more t.out p.out t.at r.at m.from g.rest;
        size = m.size ∙ g.size;
        counted = omega (arith, at, g.counted);
        within = m.within;
        bytes = rw e refl;
      }

  -- no line is left: the last bytes are held
  pub going_rest : (p t : Place B) (chunk : List ℕ) (i n : ℕ) → feeds (drop i chunk) ≡ 0 → Going p chunk t i n →
      Moved (feed hear (session_of p) chunk) p (with_line t (taken t.line chunk i).line)
  unfolding taken
  going_rest p t chunk i n h g =
      record {
        session = rest_fed hear (drop i chunk) (session_of t) t.line g.bytes refl h ∙ g.to_come;
        rest = g.rest;
        size = g.size;
        from = omega (arith, g.counted);
        within = g.within;
      }

  -- ---- the end of the input

  pub moved_none : (p : Place B) → p.line.seen ≡ 0 → p.at ≤ length p.out → Moved (finish hear (session_of p)) p p
  unfolding finish
  moved_none p e w =
      record {
        session = rw (eq-eqb (length (held p.line)) 0 (ap (λ (z : ℕ). length (take z p.line.bytes)) e)) refl;
        rest = refl;
        size = refl;
        from = omega arith;
        within = w;
      }

  some_part : (l : Line) → length l.bytes ≡ cap → (l.seen ≡ 0 → ⊥) → length (held l) ≡ 0 → ⊥
  some_part l k n z = n (omega (arith, rw length-take at z))

  pub moved_last : (p r : Place B) → length p.line.bytes ≡ cap → (p.line.seen ≡ 0 → ⊥) →
      Moved (ended hear (session_of p)) p r → Moved (finish hear (session_of p)) p r
  unfolding finish
  moved_last p r k n m = rw (ne_eqb (length (held p.line)) 0 (some_part p.line k n)) m
