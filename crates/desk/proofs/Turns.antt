-- A turn's answer as what the program holds, and turns one after the other. Assumes nothing.
use Prim.Native.Nat.{ℕ, ◌*◌, ◌≤◌, ◌<◌}
use mathlib.Core.Path.{◌≡◌, refl, sym, ap, subst, ◌∙◌}
use mathlib.Core.Bool.{Bool, true, false, true≢false}
use mathlib.Core.List.{List, [], ◌∷◌, ◌++◌}
use native.Mathlib.Omega.{arith}
use lib.ListN.{length}
use Rattle.ledger.specs.Book.{Columns}
use Rattle.protocol.specs.Calls.{Left, Turned, turned}
use Rattle.protocol.specs.Turns.{count_of, HadRoom, Held, holds, keeps, held_after}
use Rattle.protocol.specs.Claims.{Reads}
use Rattle.protocol.specs.declared.State.{State}
use Rattle.protocol.proofs.Programs.{turned_within, had_room}
use Rattle.desk.specs.Served.{Heard, Served}

-- ---- a turn

-- The program reads on only where a part came.
part_came : (s : State) (c : Columns) (part out : List ℕ) → (turned s c part out).more ≡ true → 0 < length part
unfolding turned
part_came s c [] out e = absurd (true≢false (sym e))
part_came s c (b ∷ bs) out e = omega arith

module _ (s : State) (c : Columns) (part out : List ℕ) (l : Left) (more : Bool) (e : record { left = l; more = more } ≡ turned s c part out) where
  pub within : count_of l.fed.text ≤ length l.out
  within = subst (λ (z : Turned). count_of z.left.fed.text ≤ length z.left.out) (sym e) (turned_within s c part out)

  pub roomy : 19 * length part ≤ length out → 19 ≤ length out → HadRoom l.fed.text
  roomy h k = subst (λ (z : Turned). HadRoom z.left.fed.text) (sym e) (had_room s c part out h k)

  next : keeps l ≡ held_after (holds s c out) (part ∷ [])
  unfolding held_after
  next = ap (λ (z : Turned). keeps z.left) e

  pub stopped : Heard (length part) (holds s c out) (part ∷ []) (keeps l) false
  stopped = record { turns = next; one = omega arith; reads_on = λ z. absurd (true≢false (sym z)) }

  pub heard : Heard (length part) (holds s c out) (part ∷ []) (keeps l) more
  heard =
      record {
        turns = next;
        one = omega arith;
        reads_on = λ z. (omega arith, (part_came s c part out (sym (ap (λ (t : Turned). t.more) e) ∙ z), omega arith, tt));
      }

-- ---- where a read failed

pub none_heard : (most : ℕ) (h : Held) → Heard most h [] h false
unfolding held_after
none_heard most h = record { turns = refl; one = omega arith; reads_on = λ z. absurd (true≢false (sym z)) }

-- ---- turns one after the other

after_both : (xs : List (List ℕ)) (h : Held) (ys : List (List ℕ)) → held_after h (xs ++ ys) ≡ held_after (held_after h xs) ys
unfolding held_after
after_both [] h ys = refl
after_both (x ∷ xs) h ys = after_both xs _ ys

reads_both : (most : ℕ) (xs ys : List (List ℕ)) → Reads most xs → Reads most ys → Reads most (xs ++ ys)
reads_both most [] ys h k = k
reads_both most (x ∷ xs) ys h k = (h.0, h.1, reads_both most xs ys h.2 k)

pub at_first : (most : ℕ) (h : Held) → Served most h h true
unfolding held_after
at_first most h = record { earlier = []; latest = []; turns = refl; gave = tt; one = omega arith; reads_on = λ _. tt }

pub and_then : (most : ℕ) (h h' h'' : Held) (goes : Bool) (size : ℕ) (parts : List (List ℕ)) → size ≡ most →
    Served most h h' true → Heard size h' parts h'' goes → Served most h h'' goes
and_then most h h' h'' goes size parts n s g =
    let before = s.earlier ++ s.latest in
    record {
      earlier = before;
      latest = parts;
      turns = g.turns ∙ ap (λ (z : Held). held_after z parts) s.turns ∙ sym (after_both before h parts);
      gave = reads_both most s.earlier s.latest s.gave (s.reads_on refl);
      one = g.one;
      reads_on = λ z. subst (λ (k : ℕ). Reads k parts) n (g.reads_on z).1;
    }
