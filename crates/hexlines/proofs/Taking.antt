-- Bytes taken a line at a time: byte by byte, as the loop does, and what a line more leaves of a session. Assumes nothing.
use Rattle.std.specs.Prelude.{Option}
use mathlib.Core.Path.{◌≡◌, sym, ap, ◌∙◌}
use mathlib.Core.List.{List, [], ◌∷◌, ◌++◌}
use Prim.Native.Nat.{ℕ, suc, ◌+◌, ◌≤◌, ◌<◌}
use native.Mathlib.Numerals.{add-one}
use native.Mathlib.Omega.{arith}
use borrow.Author.Tests.{eq-eqb, ne_eqb}
use lib.Dec.{eqb, ltb}
use lib.ListN.{length, take, drop, get_or, length-set, drop_of_length-le}
use lib.Seq.{drop-cons}
use Rattle.floats.proofs.Tests.{split}
use Rattle.hexlines.specs.Lines.{cap, held, pushed, through, line_in, taken, feed_in, feeds}
use Rattle.hexlines.specs.Session.{Told, Session, step, feed, ended}
use Rattle.hexlines.specs.declared.Frame.{Frame}
use Rattle.hexlines.specs.declared.Line.{Line}
use Rattle.hexlines.proofs.Parts.{held_pushed}

-- ---- a byte more
module _ (line : Line) (bytes : List ℕ) (i : ℕ) where
  pub taken_feed : i < length bytes → get_or bytes i 0 ≡ 10 → record { line = line; next = i + 1 } ≡ taken line bytes i
  unfolding taken through line_in
  taken_feed h e = sym (rw (drop-cons bytes i 0 h, eq-eqb (get_or bytes i 0) 10 e))

  pub taken_on : i < length bytes → (get_or bytes i 0 ≡ 10 → ⊥) → taken (pushed line (get_or bytes i 0)) bytes (i + 1) ≡ taken line bytes i
  unfolding taken through line_in
  taken_on h n =
      let c = get_or bytes i 0 in
      let cs = drop (suc i) bytes in
      let e : i + suc (through cs) ≡ suc i + through cs = omega arith in
      sym (rw (drop-cons bytes i 0 h, ne_eqb c 10 n, add-one) (ap (λ (m : ℕ). record { line = line_in (pushed line c) cs; next = m }) e))

  pub taken_end : length bytes ≤ i → record { line = line; next = i } ≡ taken line bytes i
  unfolding taken through line_in
  taken_end h =
      let e : i + 0 ≡ i = omega arith in
      sym (rw (drop_of_length-le bytes h, e))

-- ---- a line more

pub pushed_length : (l : Line) (c : ℕ) → length l.bytes ≡ cap → length (pushed l c).bytes ≡ cap
unfolding pushed
pushed_length l c k = split (ltb l.seen cap) (λ t. rw t (simp length-set k)) (λ t. rw t k)

pub few_feeds : (cs : List ℕ) → feeds cs ≤ length cs
unfolding feeds feed_in
few_feeds [] = omega arith
few_feeds (c ∷ cs) = split (eqb c 10) (λ t. rw t (omega (arith, few_feeds cs))) (λ t. rw t (omega (arith, few_feeds cs)))

-- the line feed that ends it is counted once
pub feeds_through : (cs : List ℕ) → 0 < feeds cs → feeds cs ≡ suc (feeds (drop (through cs) cs))
unfolding feeds feed_in through
feeds_through [] h = absurd (omega arith)
feeds_through (c ∷ cs) h =
    split (eqb c 10)
    (λ t. rw t (omega arith))
    (λ t.
    let g : 0 < feeds cs = omega (arith, rw t at h) in
    rw t (omega (arith, feeds_through cs g)))

module _ {B : Type 0} (hear : B → Option Frame → Told B) where
  abbrev holding : Session B → Line → Session B
  holding s l = record { book = s.book; part = held l; text = s.text }

  same_part : (s : Session B) (l : Line) → held l ≡ s.part → holding s l ≡ s
  same_part s l e = λ i. record { book = s.book; part = e i; text = s.text }

  -- bytes with a line feed: the line is held up to it, ended, and the rest fed
  pub line_fed : (cs : List ℕ) (s : Session B) (l : Line) → length l.bytes ≡ cap → held l ≡ s.part → 0 < feeds cs
      → feed hear (ended hear (holding s (line_in l cs))) (drop (through cs) cs) ≡ feed hear s cs
  unfolding feed step feeds feed_in through line_in
  line_fed [] s l k e h = absurd (omega arith)
  line_fed (c ∷ cs) s l k e h =
      split (eqb c 10)
      (λ t. rw t (ap (λ (z : Session B). feed hear (ended hear z) cs) (same_part s l e)))
      (λ t.
      let g : 0 < feeds cs = omega (arith, rw t at h) in
      let n : Session B = record { book = s.book; part = take cap (s.part ++ c ∷ []); text = s.text } in
      rw t (line_fed cs n (pushed l c) (pushed_length l c k) (held_pushed l c k ∙ ap (λ (p : List ℕ). take cap (p ++ c ∷ [])) e) g))

  -- bytes without: they are held
  pub rest_fed : (cs : List ℕ) (s : Session B) (l : Line) → length l.bytes ≡ cap → held l ≡ s.part → feeds cs ≡ 0
      → holding s (line_in l cs) ≡ feed hear s cs
  unfolding feed step feeds feed_in line_in
  rest_fed [] s l k e h = same_part s l e
  rest_fed (c ∷ cs) s l k e h =
      split (eqb c 10)
      (λ t. absurd (omega (arith, rw t at h)))
      (λ t.
      let g : feeds cs ≡ 0 = omega (arith, rw t at h) in
      let n : Session B = record { book = s.book; part = take cap (s.part ++ c ∷ []); text = s.text } in
      rw t (rest_fed cs n (pushed l c) (pushed_length l c k) (held_pushed l c k ∙ ap (λ (p : List ℕ). take cap (p ++ c ∷ [])) e) g))
