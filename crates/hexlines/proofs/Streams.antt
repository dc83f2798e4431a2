-- However a stream is cut into chunks, what is written is the answers to the frames of its lines, and the book is the one that heard them all.
-- Assumes nothing.
use Rattle.std.specs.Prelude.{Option}
use mathlib.Core.Path.{◌≡◌, refl, sym, ap, ◌∙◌}
use mathlib.Core.Bool.{Bool, cond}
use mathlib.Core.List.{List, [], ◌∷◌, ◌++◌, map, append_assoc, append-nil}
use Prim.Native.Nat.{ℕ}
use native.Mathlib.Omega.{arith}
use borrow.Author.Tests.{ne_eqb}
use lib.Dec.{eqb}
use lib.ListN.{length, take}
use Rattle.floats.proofs.Tests.{by}
use Rattle.hexlines.specs.Hex.{answer_line}
use Rattle.hexlines.specs.Frames.{frame_of}
use Rattle.hexlines.specs.Lines.{lines_after, unended, cap}
use Rattle.hexlines.specs.Session.{Told, Session, answers, book_after, output, book_left, ended, step, feed, finish, run, joined}
use Rattle.hexlines.specs.declared.Frame.{Frame}
use Rattle.hexlines.proofs.Parts.{frame_of_part, take_of_part}

module _ {B : Type 0} (hear : B → Option Frame → Told B) where
  abbrev at : B → List ℕ → List ℕ → Session B
  at b p t = record { book = b; part = p; text = t }

  -- The session after the frames fs, from book b and text t: no part of a line is left.
  abbrev after : B → List ℕ → List (Option Frame) → Session B
  after b t fs = at (book_after hear b fs) [] (t ++ answers hear b fs)

  last_part : (b : B) (p t : List ℕ) → finish hear (at b (take cap p) t) ≡ after b t (map frame_of (unended p))
  unfolding finish ended unended answers book_after
  last_part b [] t = rw append-nil
  last_part b (x ∷ p) t = rw (ne_eqb (length (take cap (x ∷ p))) 0 (λ e. omega arith), frame_of_part (x ∷ p), append-nil)

  -- A session that holds the part of p that decides, fed to the end of the input.
  pub whole : (bs : List ℕ) (b : B) (p t : List ℕ) → finish hear (feed hear (at b (take cap p) t) bs) ≡ after b t (map frame_of (lines_after p bs))
  unfolding feed lines_after step ended answers book_after
  whole [] b p t = last_part b p t
  whole (x ∷ bs) b p t =
      by (λ (z : Session B × List (List ℕ)). finish hear (feed hear z.0 bs) ≡ after b t (map frame_of z.1))
      (λ (q : Bool). (
        cond q (ended hear (at b (take cap p) t)) (at b (take cap (take cap p ++ x ∷ [])) t),
        cond q (p ∷ lines_after [] bs) (lines_after (p ++ x ∷ []) bs),
      ))
      (eqb x 10)
      (λ _.
      let h = hear b (frame_of p) in
      let line = answer_line h.number h.value in
      let fs = map frame_of (lines_after [] bs) in
      rw (frame_of_part p)
      (whole bs h.book [] (t ++ line) ∙ ap (at (book_after hear h.book fs) []) (append_assoc t line (answers hear h.book fs))))
      (λ _. rw (take_of_part cap p (x ∷ [])) (whole bs b (p ++ x ∷ []) t))

  -- ---- chunks

  -- Feeding xs and then ys is feeding both at once.
  pub feed_append : (s : Session B) (xs ys : List ℕ) → feed hear s (xs ++ ys) ≡ feed hear (feed hear s xs) ys
  unfolding feed
  feed_append s [] ys = refl
  feed_append s (x ∷ xs) ys = feed_append (step hear s x) xs ys

  -- Text that waits stands before what comes.
  abbrev behind : List ℕ → Session B → Session B
  behind t s = at s.book s.part (t ++ s.text)

  ended_behind : (t : List ℕ) (s : Session B) → ended hear (behind t s) ≡ behind t (ended hear s)
  unfolding ended
  ended_behind t s = rw append_assoc

  step_behind : (t : List ℕ) (s : Session B) (x : ℕ) → step hear (behind t s) x ≡ behind t (step hear s x)
  unfolding step
  step_behind t s x =
      by (λ (z : Session B × Session B). z.0 ≡ behind t z.1)
      (λ (q : Bool). (
        cond q (ended hear (behind t s)) (at s.book (take cap (s.part ++ x ∷ [])) (t ++ s.text)),
        cond q (ended hear s) (at s.book (take cap (s.part ++ x ∷ [])) s.text),
      ))
      (eqb x 10) (λ _. ended_behind t s) (λ _. refl)

  feed_behind : (t : List ℕ) (s : Session B) (bs : List ℕ) → feed hear (behind t s) bs ≡ behind t (feed hear s bs)
  unfolding feed
  feed_behind t s [] = refl
  feed_behind t s (x ∷ bs) = ap (λ (z : Session B). feed hear z bs) (step_behind t s x) ∙ feed_behind t (step hear s x) bs

  finish_behind : (t : List ℕ) (s : Session B) → finish hear (behind t s) ≡ behind t (finish hear s)
  unfolding finish
  finish_behind t s =
      by (λ (z : Session B × Session B). z.0 ≡ behind t z.1) (λ (q : Bool). (cond q (behind t s) (ended hear (behind t s)), cond q s (ended hear s)))
      (eqb (length s.part) 0) (λ _. refl) (λ _. ended_behind t s)

  run_joined : (cs : List (List ℕ)) (b : B) (p : List ℕ) → run hear b p cs ≡ finish hear (feed hear (at b p []) (joined cs))
  unfolding run feed
  run_joined [] b p = refl
  run_joined (c ∷ cs) b p =
      let s = feed hear (at b p []) c in
      let fresh = at s.book s.part [] in
      ap (behind s.text) (run_joined cs s.book s.part)
      ∙ sym (finish_behind s.text (feed hear fresh (joined cs)))
      ∙ ap (finish hear)
      (sym (feed_behind s.text fresh (joined cs))
      ∙ ap (λ (t : List ℕ). feed hear (at s.book s.part t) (joined cs)) (append-nil s.text)
      ∙ sym (feed_append (at b p []) c (joined cs)))

  -- The program's claim: whatever the book and the chunks.
  pub any_chunks : (b : B) (cs : List (List ℕ)) → run hear b [] cs ≡ at (book_left hear b (joined cs)) [] (output hear b (joined cs))
  any_chunks b cs = run_joined cs b [] ∙ whole (joined cs) b [] []
