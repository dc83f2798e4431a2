-- The program's turns one after the other are a run of a session. Assumes nothing.
use Rattle.std.specs.Prelude.{Err}
use mathlib.Core.Path.{◌≡◌, refl, sym, ap, subst, ◌∙◌}
use mathlib.Core.Bool.{Bool, cond}
use mathlib.Core.List.{List, [], ◌∷◌, ◌++◌, append-nil, append_assoc}
use Prim.Native.Nat.{ℕ, ◌*◌, ◌≤◌, ◌<◌}
use native.Mathlib.Omega.{arith}
use lib.Dec.{eqb, ltb}
use lib.ListN.{length, take, drop, length-append, length-drop}
use lib.Seq.{take_at}
use Rattle.floats.proofs.Tests.{by}
use Rattle.ledger.specs.Book.{Columns, zero_book}
use Rattle.ledger.specs.Claim.{Ledger}
use Rattle.hexlines.specs.Lines.{cap, unended, held, no_line, pushed, feeds}
use Rattle.hexlines.specs.Session.{Session, step, feed, finish, ended, run, output, joined}
use Rattle.hexlines.specs.declared.Line.{Line}
use Rattle.hexlines.proofs.Parts.{held_pushed}
use Rattle.hexlines.proofs.Taking.{pushed_length, few_feeds}
use Rattle.hexlines.proofs.Streams.{any_chunks}
use Rattle.protocol.specs.Hear.{ledger, hears}
use Rattle.protocol.specs.Calls.{fresh, session, line_step, line_after, Left, left, wrote, if_room, fed, finished, turned}
use Rattle.protocol.specs.Turns.{count_of, HadRoom, text_of, Held, holds, keeps, held_after, written}
use Rattle.protocol.specs.Claims.{Reads}
use Rattle.protocol.specs.declared.State.{State}
use Rattle.protocol.proofs.Lengths.{fed_size, with_room}

-- ---- the text of a call

wrote_text : (l : Ledger) (line : Line) (text out : List ℕ) → text_of (wrote l line text out) ≡ text
wrote_text l line text out = take_at text (drop (length text) out) (length text) refl

wrote_size : (l : Ledger) (line : Line) (text out : List ℕ) → length text ≤ length out → length (wrote l line text out).out ≡ length out
wrote_size l line text out h = simp (length-append, length-drop) (omega arith)

-- No call writes past the buffer.
counts_within : (n : ℕ) (s : State) (c : Columns) (out : List ℕ) (l : Ledger) (line : Line) (text : List ℕ) →
    count_of (if_room n s c out (wrote l line text out)).fed.text ≤ length (if_room n s c out (wrote l line text out)).out
unfolding if_room
counts_within n s c out l line text =
    by (λ (r : Left). count_of r.fed.text ≤ length r.out)
    (λ (b : Bool). cond b (left (record { state = s; text = Err (record { lines = n }) }) c out) (wrote l line text out)) (ltb (length out) (19 * n))
    (λ _. omega arith) (λ _. simp length-append (omega arith))

fed_within : (s : State) (c : Columns) (chunk out : List ℕ) → count_of (fed s c chunk out).fed.text ≤ length (fed s c chunk out).out
unfolding fed
fed_within s c chunk out =
    let t = feed hears (session s c) chunk in
    counts_within (feeds chunk) s c out t.book (line_after s.line chunk) t.text

finished_within : (s : State) (c : Columns) (out : List ℕ) → count_of (finished s c out).fed.text ≤ length (finished s c out).out
unfolding finished
finished_within s c out =
    let t = finish hears (session s c) in
    counts_within (length (unended (held s.line))) s c out t.book no_line t.text

pub turned_within : (s : State) (c : Columns) (part out : List ℕ) →
    count_of (turned s c part out).left.fed.text ≤ length (turned s c part out).left.out
unfolding turned
turned_within s c [] out = finished_within s c out
turned_within s c (b ∷ bs) out = fed_within s c (b ∷ bs) out

-- ---- the line that is held is the session's part

step_length : (l : Line) (c : ℕ) → length l.bytes ≡ cap → length (line_step l c).bytes ≡ cap
unfolding line_step
step_length l c k = by (λ (z : Line). length z.bytes ≡ cap) (λ (q : Bool). cond q no_line (pushed l c)) (eqb c 10) (λ _. refl) (λ _. pushed_length l c k)

held_step : (s : Session Ledger) (l : Line) (c : ℕ) → length l.bytes ≡ cap → held l ≡ s.part → held (line_step l c) ≡ (step hears s c).part
unfolding line_step step ended
held_step s l c k e =
    by (λ (z : Line × Session Ledger). held z.0 ≡ z.1.part)
    (λ (q : Bool). (cond q no_line (pushed l c), cond q (ended hears s) (record { book = s.book; part = take cap (s.part ++ c ∷ []); text = s.text })))
    (eqb c 10) (λ _. refl) (λ _. held_pushed l c k ∙ ap (λ (p : List ℕ). take cap (p ++ c ∷ [])) e)

after_length : (bs : List ℕ) (l : Line) → length l.bytes ≡ cap → length (line_after l bs).bytes ≡ cap
unfolding line_after
after_length [] l k = k
after_length (c ∷ cs) l k = after_length cs (line_step l c) (step_length l c k)

held_after_lem : (bs : List ℕ) (s : Session Ledger) (l : Line) → length l.bytes ≡ cap → held l ≡ s.part → held (line_after l bs) ≡ (feed hears s bs).part
unfolding line_after feed
held_after_lem [] s l k e = e
held_after_lem (c ∷ cs) s l k e = held_after_lem cs (step hears s c) (line_step l c) (step_length l c k) (held_step s l c k e)

-- ---- the calls

few : (p : List ℕ) → length (unended p) ≤ 1
unfolding unended
few [] = omega arith
few (x ∷ p) = omega arith

-- The turns: each chunk is fed and its text written, then the input ends.
abbrev called : State → Columns → List ℕ → List (List ℕ) → List ℕ
called s c out [] = text_of (finished s c out)
called s c out (chunk ∷ chunks) =
    let r = fed s c chunk out in
    text_of r ++ called r.fed.state r.columns r.out chunks

run_called : (most : ℕ) (chunks : List (List ℕ)) (s : State) (c : Columns) (out : List ℕ) → length s.line.bytes ≡ cap → 0 < most
    → Reads most chunks → 19 * most ≤ length out → called s c out chunks ≡ (run hears (ledger s.book c) (held s.line) chunks).text
unfolding run finished fed
run_called most [] s c out k m h room =
    let t = finish hears (session s c) in
    let w = wrote t.book no_line t.text out in
    ap text_of (with_room (length (unended (held s.line))) s c out w (omega (arith, few (held s.line)))) ∙ wrote_text t.book no_line t.text out
run_called most (chunk ∷ chunks) s c out k m h room =
    let t = feed hears (session s c) chunk in
    let line = line_after s.line chunk in
    let w = wrote t.book line t.text out in
    let answers : 19 * feeds chunk ≤ length out = omega (arith, h.1, few_feeds chunk) in
    let size : length w.out ≡ length out = wrote_size t.book line t.text out (omega (arith, fed_size (session s c) chunk)) in
    ap (λ (r : Left). text_of r ++ called r.fed.state r.columns r.out chunks) (with_room (feeds chunk) s c out w answers)
    ∙ ap (λ (x : List ℕ). x ++ called w.fed.state w.columns w.out chunks) (wrote_text t.book line t.text out)
    ∙ ap (λ (x : List ℕ). t.text ++ x)
    (run_called most chunks w.fed.state w.columns w.out (after_length chunk s.line k) m h.2 (omega arith)
    ∙ ap (λ (p : List ℕ). (run hears t.book p chunks).text) (held_after_lem chunk (session s c) s.line k refl))

-- A read that gives nothing is the last, whatever would come later.
turns_called : (most : ℕ) (parts later : List (List ℕ)) (s : State) (c : Columns) (out : List ℕ) → Reads most parts →
    written (holds s c out) (parts ++ [] ∷ later) ≡ called s c out parts
unfolding written turned
turns_called most [] later s c out h = append-nil (text_of (finished s c out))
turns_called most ([] ∷ parts) later s c out h = absurd (omega (arith, h.0))
turns_called most ((b ∷ bs) ∷ parts) later s c out h =
    let r = fed s c (b ∷ bs) out in
    ap (λ (x : List ℕ). text_of r ++ x) (turns_called most parts later r.fed.state r.columns r.out h.2)

-- each turn gets what the last one left
pub handed_on : (most : ℕ) (h : Held) (parts later : List (List ℕ)) → Reads most parts →
    written h (parts ++ later) ≡ written h parts ++ written (held_after h parts) later
unfolding written held_after turned
handed_on most h [] later k = refl
handed_on most h ([] ∷ parts) later k = absurd (omega (arith, k.0))
handed_on most h ((b ∷ bs) ∷ parts) later k =
    let r = fed h.state h.columns (b ∷ bs) h.out in
    let n = keeps r in
    ap (λ (x : List ℕ). text_of r ++ x) (handed_on most n parts later k.2)
    ∙ sym (append_assoc (text_of r) (written n parts) (written (held_after n parts) later))

pub any_turns : (most : ℕ) (c : Columns) (out : List ℕ) (parts later : List (List ℕ)) → 0 < most → Reads most parts → 19 * most ≤ length out →
    written (holds fresh c out) (parts ++ [] ∷ later) ≡ output hears (ledger zero_book c) (joined parts)
any_turns most c out parts later m h room =
    turns_called most parts later fresh c out h
    ∙ run_called most parts fresh c out refl m h room
    ∙ ap (λ (z : Session Ledger). z.text) (any_chunks hears (ledger zero_book c) parts)

-- ---- room for a part's answers

pub had_room : (s : State) (c : Columns) (part out : List ℕ) → 19 * length part ≤ length out → 19 ≤ length out →
    HadRoom (turned s c part out).left.fed.text
unfolding turned finished fed
had_room s c [] out h k =
    let t = finish hears (session s c) in
    let w = wrote t.book no_line t.text out in
    subst (λ (z : Left). HadRoom z.fed.text) (sym (with_room (length (unended (held s.line))) s c out w (omega (arith, few (held s.line))))) tt
had_room s c (b ∷ bs) out h k =
    let t = feed hears (session s c) (b ∷ bs) in
    let w = wrote t.book (line_after s.line (b ∷ bs)) t.text out in
    subst (λ (z : Left). HadRoom z.fed.text) (sym (with_room (feeds (b ∷ bs)) s c out w (omega (arith, few_feeds (b ∷ bs))))) tt
