-- A whole tray: the opening, the list and the build put together, and demand 3's claim of what they leave. Assumes nothing.
use mathlib.Core.Path.{◌≡◌, sym, ap, ◌∙◌, subst}
use lib.ListN.{take}
use mathlib.Core.Bool.{true≢false}
use mathlib.Core.List.{List}
use Rattle.std.specs.Prelude.{Result, Ok, Err}
use Prim.Native.Nat.{ℕ}
use lib.Dec.{eqb}
use borrow.Author.Tests.{eq-eqb, ne_eqb, eqb-true, eqb-false}
use Rattle.limits.specs.Checks.{none}
use Rattle.limits.specs.Outcome.{Outcome, done, refused, is_done, number_of, values_of, answered}
use Rattle.limits.specs.Refusals.{number}
use Rattle.limits.specs.declared.Refusal.{Refusal}
use Rattle.ledger.specs.declared.Unopened.{Unopened}
use Rattle.chart.specs.Build.{outcome}
use Rattle.chart.specs.declared.Lengths.{Lengths}
use Rattle.floats.proofs.Tests.{split}
use Rattle.ledger.specs.Model.{bsm}
use Rattle.ledger.specs.declared.Opening.{Opening}
use Rattle.ledger.specs.Book.{Columns, fresh, zero_book, open_refusal, opened, outcome_of_opening}
use Rattle.ledger.specs.Build.{Buffers, build_outcome, buffers_after, BuildsBook}
use Rattle.ledger.specs.Fold.{after}
use Rattle.ledger.specs.Claim.{Ledger, hear, ledger, answers, Agrees, Demand3}
use Rattle.trays.specs.Tray.{Answers, Lent, lent, heard, reply_of, tray_reply, lent_after, HearsAll, TrayClaim, QuotesTray}
use Rattle.ledger.specs.declared.Book.{Book}
use Rattle.ledger.specs.declared.Offer.{Offer}
use Rattle.ledger.proofs.Demand3.{claim}

-- ---- what an opening's answer tells
opened_fresh : (o : Opening) (b : Book) → done b ≡ opened o → (open_refusal o ≡ none) × (b ≡ fresh o)
unfolding opened answered
opened_fresh o b e =
    split (eqb (open_refusal o) none)
    (λ t. (eqb-true (open_refusal o) none t, ap values_of (rw t at e)))
    (λ f. absurd (true≢false (ap is_done (rw f at e))))

opened_refused : (o : Opening) (number : ℕ) (b : Book) → refused number b ≡ opened o → (number ≡ open_refusal o) × (open_refusal o ≡ none → ⊥) × (b ≡ zero_book)
unfolding opened answered
opened_refused o number b e =
    split (eqb (open_refusal o) none)
    (λ t. absurd (true≢false (sym (ap is_done (rw t at e)))))
    (λ f. (ap number_of (rw f at e), eqb-false (open_refusal o) none f, ap values_of (rw f at e)))

-- ---- the tray
pub shut_tray : (opening : Opening) (os : List Offer) (l : Lent) (u : Unopened) → outcome_of_opening (Err u) ≡ opened opening
    → QuotesTray opening os l (reply_of (Err u)) l
unfolding reply_of tray_reply lent_after
shut_tray opening os l u e =
    let k = opened_refused opening (number u.refusal) u.book e in
    let t = ne_eqb (open_refusal opening) none k.1 in
    record { answers = simp (t, k.0, k.2); lent = simp t; claim = λ w. absurd (k.1 w) }

-- demand 3 of the definitions is demand 3 of what the calls returned and left
demand_3 : {opening : Opening} {os : List Offer} {a : Answers} {c : Columns} {s : Buffers} {b : Book} {c' : Columns} {a' : Answers} {r : Outcome Lengths}
    {s' : Buffers} → Demand3 bsm opening c os s → HearsAll (record { book = fresh opening; columns = c }) os a b c' a' → BuildsBook b c' s r s'
    → TrayClaim opening os (lent a c s) b r (lent a' c' s')
demand_3 {opening} {os} {a} {c} {s} {b} {c'} {a'} {r} {s'} d h x =
    let at_first : Ledger = record { book = fresh opening; columns = c } in
    let last = ledger bsm opening c os in
    let o : r ≡ build_outcome last.book last.columns s = x.answers ∙ ap (λ (l : Ledger). build_outcome l.book l.columns s) h.ledger in
    let w : s' ≡ buffers_after last.book last.columns s = x.buffers ∙ ap (λ (l : Ledger). buffers_after l.book l.columns s) h.ledger in
    record {
      replies = answers bsm opening c os;
      handed_out = h.answers;
      list = subst (λ (l : Ledger). Agrees bsm opening c os (answers bsm opening c os) l (λ n. (after (hear bsm) at_first (take n os)).book))
          (sym h.ledger) d.list;
      build = rw (o, w) d.build;
    }

pub quoted_tray : (opening : Opening) (os : List Offer) (a : Answers) (c : Columns) (s : Buffers) (f b : Book) (c' : Columns) (a' : Answers)
    (r : Result Lengths Refusal) (s' : Buffers) → outcome_of_opening (Ok f) ≡ opened opening
    → HearsAll (record { book = f; columns = c }) os a b c' a' → BuildsBook b c' s (outcome r) s'
    → QuotesTray opening os (lent a c s) (reply_of (Ok (record { book = b; built = r }))) (lent a' c' s')
unfolding reply_of tray_reply lent_after
quoted_tray opening os a c s f b c' a' r s' e w x =
    let p = opened_fresh opening f e in
    let h : HearsAll (record { book = fresh opening; columns = c }) os a b c' a' = rw p.1 at w in
    let t = eq-eqb (open_refusal opening) none p.0 in
    record {
      answers = simp t ((λ i. heard b (x.answers i)) ∙ ap (λ (l : Ledger). heard l.book (build_outcome l.book l.columns s)) h.ledger);
      lent = simp t
          ((λ i. lent a' c' (x.buffers i)) ∙ (λ i. lent (h.answers i) (h.ledger i).columns (buffers_after (h.ledger i).book (h.ledger i).columns s)));
      claim = λ o. demand_3 (claim.demand_3 bsm opening o c os s) h x;
    }
