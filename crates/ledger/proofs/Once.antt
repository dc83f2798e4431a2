-- One offer: the book answers it by the tally's tests, and book and tally agree after it. Assumes nothing.
use Rattle.std.specs.Prelude.{if◌then◌else◌}
use mathlib.Core.Path.{◌≡◌, refl, sym, subst}
use Prim.Native.Nat.{ℕ, ◌+◌, ◌<◌}
use native.Mathlib.Omega.{arith}
use mathlib.Core.Bool.{Bool, true, false, not, ◌||◌}
use mathlib.Core.List.{[], ◌∷◌, ◌++◌}
use lib.Dec.{leb, eqb, lit<}
use lib.ListN.{length, length-append}
use borrow.Author.Tests.{leb-false, eq-eqb, ne_eqb}
use lib.Ieee.{Float}
use Rattle.floats.proofs.Tests.{clash}
use Rattle.limits.specs.Checks.{first, none}
use Rattle.limits.specs.Outcome.{Outcome, done, refused, is_done, number_of, values_of}
use Rattle.brent.specs.declared.Solution.{Solution}
use Rattle.brent.specs.Outcome.{zeros}
use Rattle.chart.specs.Quotes.{Quote}
use Rattle.chart.proofs.Kept.{long}
use Rattle.ledger.specs.Model.{Model, prices_of}
use Rattle.ledger.specs.declared.Opening.{Opening}
use Rattle.ledger.specs.Tally.{Fate, listed, turned, fate, Tally, turned_down, quote_of, listed_at, accounted, step}
use Rattle.ledger.specs.Book.{Columns, open_refusal, is_short, own_refusal, offer_refusal, answer, offer_outcome, turned_book, book_after, filed, columns_after}
use Rattle.ledger.specs.Claim.{Ledger, reply, list_after, number_from, Evidence, Right, holding}
use Rattle.ledger.specs.declared.Offer.{Offer}
use Rattle.ledger.proofs.Settled.{Accepted, Declined, Alike, Early, refused_early, settled, settles, settled_number}
use Rattle.ledger.proofs.Quoted.{column_grows, ranged_more}
use Rattle.ledger.proofs.Agree.{Agree, same_short, unbroken}

-- ---- what an offer is answered: by 1, 3 and 4, else as its own checks and its solver say
abbrev replied : Bool → Bool → Bool → Outcome Solution → Outcome Solution
replied short all-heard full r =
    if short then refused 1 (zeros 0) else (if all-heard then refused 3 (zeros 0) else (if full then refused 4 (zeros 0) else r))

reply_by : (short all-heard full : Bool) (own : ℕ) (a : Outcome Solution)
    → (let n = first short 1 (first false 2 (first all-heard 3 (first full 4 own))) in if eqb n none then a else refused n (zeros 0))
    ≡ replied short all-heard full (if eqb own none then a else refused own (zeros 0))
unfolding first
reply_by true h f own a = refl
reply_by false true f own a = refl
reply_by false false true own a = refl
reply_by false false false own a = refl

number_by_lem : (short all-heard full : Bool) (n : ℕ) (r : Outcome Solution) → n ≡ number_of r
    → number_of (replied short all-heard full r) ≡ first short 1 (first all-heard 3 (first full 4 n))
unfolding first
number_by_lem true h f n r e = refl
number_by_lem false true f n r e = refl
number_by_lem false false true n r e = refl
number_by_lem false false false n r e = sym e

early : (n : ℕ) → 0 < n → n < 11 → Early n
early n p q = record { some = λ e. omega arith; not_11 = λ e. omega arith; not_12 = λ e. omega arith; not_13 = λ e. omega arith }

module _ (model : Model) (opening : Opening) (was : Columns) where
  reply_is : (l : Ledger) (t : Tally) (o : Offer) → open_refusal opening ≡ none → Agree opening was l t
      → reply model l o ≡ replied (is_short was) (leb 60000 t.heard) (leb 1024 (length t.quotes)) (settled model opening o)
  unfolding offer_outcome offer_refusal
  reply_is l t o ok a =
      rw (same_short opening was l t a, unbroken opening was l t ok a, a.heard, a.kept, a.inputs)
      (reply_by (is_short was) (leb 60000 t.heard) (leb 1024 (length t.quotes)) (own_refusal o) (answer model opening o))

  -- ---- what it leaves
  abbrev left : Ledger → Offer → Outcome Solution → Ledger
  left l o r = record { book = book_after l.book r; columns = columns_after l.book l.columns o r }

  record Next (l : Ledger) (t : Tally) (o : Offer) (r : Outcome Solution) (l' : Ledger) (t' : Tally) : Type 0 where
    pub agree : Agree opening was l' t'
    pub listed : t'.quotes ≡ list_after t.quotes o r
    pub accepted : is_done r ≡ not (eqb (length t'.quotes) (length t.quotes))
    pub counted : t'.evaluations ≡ t.evaluations + (values_of r).evaluations

  same_list : (n : ℕ) → false ≡ not (eqb n n)
  same_list n = sym (rw (eq-eqb n n refl))

  -- 1 and 3 leave everything as it is
  left_alone : (l : Ledger) (o : Offer) (number : ℕ) (x : Solution) → leb number 3 ≡ true → left l o (refused number x) ≡ l
  unfolding book_after columns_after
  left_alone l o number x h = λ i. record { book = if h i then l.book else turned_book l.book x.evaluations; columns = l.columns }

  stays : (l : Ledger) (t : Tally) (o : Offer) (number : ℕ) → leb number 3 ≡ true → Agree opening was l t
      → Next l t o (refused number (zeros 0)) (left l o (refused number (zeros 0))) t
  unfolding zeros
  stays l t o number h a =
      subst (λ (l' : Ledger). Next l t o (refused number (zeros 0)) l' t) (sym (left_alone l o number (zeros 0) h))
      (record { agree = a; listed = refl; accepted = same_list (length t.quotes); counted = omega arith })

  -- any other refusal counts as heard and refused
  turned_down_lem : (l : Ledger) (o : Offer) (number : ℕ) (x : Solution) → leb number 3 ≡ false
      → left l o (refused number x) ≡ record { book = turned_book l.book x.evaluations; columns = l.columns }
  unfolding book_after columns_after
  turned_down_lem l o number x h = λ i. record { book = if h i then l.book else turned_book l.book x.evaluations; columns = l.columns }

  turns : (l : Ledger) (t : Tally) (o : Offer) (number : ℕ) (x : Solution) (obtained : ℕ) → leb 60000 t.heard ≡ false → Declined number x obtained
      → Agree opening was l t → Next l t o (refused number x) (left l o (refused number x)) (turned_down t obtained)
  unfolding turned_down
  turns l t o number x obtained h d a =
      let few = leb-false 60000 t.heard h in
      subst (λ (l' : Ledger). Next l t o (refused number x) l' (turned_down t obtained)) (sym (turned_down_lem l o number x d.late))
      (record {
        agree = record {
          inputs = a.inputs;
          kept = a.kept;
          heard = omega arith;
          refused = omega arith;
          evaluations = omega arith;
          room = a.room;
          total = omega arith;
          few = omega arith;
          cost = omega arith;
          columns = a.columns;
          shut = a.shut;
          ranged = a.ranged;
        };
        listed = refl;
        accepted = same_list (length t.quotes);
        counted = omega arith;
      })

  -- an accepted one is listed at the end, and stands at index kept of the columns
  files : (l : Ledger) (t : Tally) (o : Offer) (v : Float) → is_short was ≡ false → length t.quotes < 1024 → Agree opening was l t
      → filed l.book.kept o v l.columns ≡ holding (t.quotes ++ (quote_of o v ∷ [])) was
  files l t o v sh room a =
      let w = long was sh in
      rw (a.kept, a.columns)
      (λ i. record {
        strikes = column_grows (λ (q : Quote). q.strike) t.quotes was.strikes (quote_of o v) (omega arith) i;
        expiries = column_grows (λ (q : Quote). q.expiry) t.quotes was.expiries (quote_of o v) (omega arith) i;
        volatilities = column_grows (λ (q : Quote). q.volatility) t.quotes was.volatilities (quote_of o v) (omega arith) i;
      })

  keeps : (l : Ledger) (t : Tally) (o : Offer) (x : Solution) (v : Float) (obtained : ℕ)
      → is_short was ≡ false → leb 60000 t.heard ≡ false → leb 1024 (length t.quotes) ≡ false
      → Accepted o.strike o.expiry x v obtained → Agree opening was l t → Next l t o (done x) (left l o (done x)) (listed_at t o v obtained)
  unfolding book_after columns_after listed_at
  keeps l t o x v obtained sh h f d a =
      let few = leb-false 60000 t.heard h in
      let room = leb-false 1024 (length t.quotes) f in
      let longer : length (t.quotes ++ (quote_of o v ∷ [])) ≡ length t.quotes + 1 = simp length-append in
      record {
        agree = record {
          inputs = a.inputs;
          kept = omega arith;
          heard = omega arith;
          refused = a.refused;
          evaluations = omega arith;
          room = omega arith;
          total = omega arith;
          few = omega arith;
          cost = omega arith;
          columns = rw (← d.listed) (files l t o v sh room a);
          shut = λ e. absurd (clash e sh);
          ranged = ranged_more t.quotes (quote_of o v) (rw (d.strike, d.expiry, d.in_range)) a.ranged;
        };
        listed = rw d.listed;
        accepted = sym (rw (ne_eqb (length (t.quotes ++ (quote_of o v ∷ []))) (length t.quotes) (λ z. omega arith)));
        counted = omega arith;
      }

  next_by : (l : Ledger) (t : Tally) (o : Offer) (short all-heard full : Bool) (r : Outcome Solution) (f : Fate)
      → is_short was ≡ short → leb 60000 t.heard ≡ all-heard → leb 1024 (length t.quotes) ≡ full → Alike o.strike o.expiry r f
      → Agree opening was l t
      → Next l t o (replied short all-heard full r) (left l o (replied short all-heard full r))
      (if short || all-heard then t else (if full then turned_down t 0 else accounted t o f))
  unfolding accounted zeros
  next_by l t o true h u r f p q k s a = stays l t o 1 refl a
  next_by l t o false true u r f p q k s a = stays l t o 3 refl a
  next_by l t o false false true r f p q k s a = turns l t o 4 (zeros 0) 0 q (record { counted = refl; few = omega arith; late = refl }) a
  next_by l t o false false false (done x) (listed v n) p q k s a = keeps l t o x v n p q k s a
  next_by l t o false false false (done x) (turned n) p q k s a = absurd s
  next_by l t o false false false (refused number x) (listed v n) p q k s a = absurd s
  next_by l t o false false false (refused number x) (turned n) p q k s a = turns l t o number x n q s a

  -- ---- the evidence
  evidence_by : (o : Offer) (short all-heard full : Bool) (r : Outcome Solution) → Evidence model opening o r
      → Evidence model opening o (replied short all-heard full r)
  evidence_by o true h f r e = refused_early (prices_of model opening o) o.terms 1 (early 1 (lit< tt) (lit< tt))
  evidence_by o false true f r e = refused_early (prices_of model opening o) o.terms 3 (early 3 (lit< tt) (lit< tt))
  evidence_by o false false true r e = refused_early (prices_of model opening o) o.terms 4 (early 4 (lit< tt) (lit< tt))
  evidence_by o false false false r e = e

  -- ---- all of it
  pub record Once (l : Ledger) (t : Tally) (o : Offer) (r : Outcome Solution) : Type 0 where
    pub agree : Agree opening was (left l o r) (step model opening (is_short was) t o)
    pub right : Right model opening (is_short was) t o r

  pub once : (l : Ledger) (t : Tally) (o : Offer) → open_refusal opening ≡ none → Agree opening was l t → Once l t o (reply model l o)
  unfolding step number_from
  once l t o ok a =
      let h = leb 60000 t.heard in
      let f = leb 1024 (length t.quotes) in
      let s = settles model opening o in
      let n = next_by l t o (is_short was) h f (settled model opening o) (fate model opening o) refl refl refl s.alike a in
      subst (λ (r : Outcome Solution). Once l t o r) (sym (reply_is l t o ok a))
      (record {
        agree = n.agree;
        right = record {
          listed = n.listed;
          accepted = n.accepted;
          number = number_by_lem (is_short was) h f _ (settled model opening o) (settled_number model opening o);
          counted = n.counted;
          evidence = evidence_by o (is_short was) h f (settled model opening o) s.evidence;
        };
      })
