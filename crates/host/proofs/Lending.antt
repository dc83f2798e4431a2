-- The calls on lent memory: the number and what is written stand for the very answer of the call below. Assumes nothing.
use Rattle.std.specs.Prelude.{Result, Ok, Err, if◌then◌else◌}
use mathlib.Core.Path.{◌≡◌, refl, sym, ap, ◌∙◌}
use mathlib.Core.Bool.{Bool, true, false, not}
use mathlib.Core.List.{List, [], ◌∷◌}
use Prim.Native.Nat.{ℕ}
use native.Mathlib.Omega.{arith}
use lib.Dec.{eqb}
use lib.Ieee.{Float}
use borrow.Author.Tests.{ne_eqb, eqb-true}
use Rattle.limits.specs.Ranges.{is_spot, is_rate}
use Rattle.limits.specs.Checks.{first, none}
use Rattle.limits.specs.Outcome.{Outcome, number_of}
use Rattle.limits.specs.Refusals.{number, number_in}
use Rattle.limits.specs.declared.Refusal.{Refusal}
use Rattle.ledger.specs.declared.Unopened.{Unopened}
use Rattle.limits.proofs.Refusals.{some}
use Rattle.limits.proofs.Answers.{number_answered}
use Rattle.chart.specs.Quotes.{Quote, Columns}
use Rattle.chart.specs.Build.{Buffers, buffers_of, outcome, Builds}
use Rattle.chart.specs.declared.Lengths.{Lengths}
use Rattle.ledger.specs.Model.{bsm}
use Rattle.ledger.specs.declared.Opening.{Opening}
use Rattle.ledger.specs.declared.Offer.{Offer}
use Rattle.ledger.specs.declared.Book.{Book}
use Rattle.ledger.specs.Book.{columns_of, opening_of, zero_book, open_refusal, is_short}
use Rattle.ledger.specs.Build.{build_outcome}
use Rattle.ledger.specs.Claim.{tallied, surface_refusal}
use Rattle.trays.specs.Tray.{Lent, lent, answers, shut, heard, reply_of, last_ledger, tray_reply, QuotesTray}
use Rattle.trays.specs.declared.Tray.{Tray}
use Rattle.admission.specs.declared.SurfaceBuffers.{SurfaceBuffers}
use Rattle.admission.specs.Lent.{buffers_in}
use Rattle.book.specs.declared.QuoteColumns.{QuoteColumns}
use Rattle.book.specs.Lent.{columns_held}
use Rattle.batch.specs.declared.Answers as batch
use Rattle.batch.specs.Lent.{answers_in}
use Rattle.host.specs.Calls.{built_in, lengths_of, BuildsFor, is_opening, book_in, tray_in, book_of, totals_of, built_of, QuotesFor}

-- ---- a build
built_back : (a : Result Lengths Refusal) → built_in (number_in a) (lengths_of (outcome a)) ≡ outcome a
unfolding built_in lengths_of
built_back (Ok n) = refl
built_back (Err refusal) = simp (ne_eqb (number refusal) none (some refusal))

-- ---- what a host reads of the memory that it lent, once the struct of it is given back
pub record AnswersBack (a : batch.Answers) (u : List (List ℕ)) (v : List (List Float)) : Type 0 where
  pub numbers : u ≡ a.numbers.now
  pub evidence : v ≡ a.evidence.now

pub record ColumnsBack (c : QuoteColumns) (k t v : List Float) : Type 0 where
  pub strikes : k ≡ c.strikes.now
  pub expiries : t ≡ c.expiries.now
  pub volatilities : v ≡ c.volatilities.now

pub record BuffersBack (b : SurfaceBuffers) (k t g : List Float) (n : List ℕ) : Type 0 where
  pub strike_axis : k ≡ b.strike_axis.now
  pub expiry_axis : t ≡ b.expiry_axis.now
  pub grid : g ≡ b.grid.now
  pub counts : n ≡ b.counts.now

pub builds : (c : Columns) (kept : ℕ) (s : Buffers) (a : Result Lengths Refusal) (b : SurfaceBuffers) (number : ℕ) (w : List ℕ)
    (k t g : List Float) (n : List ℕ) → Builds c kept s (outcome a) (buffers_in b) → number ≡ number_in a → w ≡ lengths_of (outcome a)
    → BuffersBack b k t g n → BuildsFor c kept s number w (buffers_of k t g n)
builds c kept s a b number w k t g n h p q e =
    rw (p, q, e.strike_axis, e.expiry_axis, e.grid, e.counts) (record { builds = rw (built_back a) h; written = rw (built_back a) })

number_back : (a : Result Lengths Refusal) → number_of (outcome a) ≡ number_in a
number_back (Ok n) = refl
number_back (Err refusal) = refl

-- ---- a tray: 6 and 9 are the opening's numbers, and no build's
opening_number : (o : Opening) → eqb (open_refusal o) none ≡ false → is_opening (open_refusal o) ≡ true
unfolding open_refusal first
opening_number o h = go (is_spot o.spot) (is_rate o.rate) h
  where
    go : (s r : Bool) → eqb (if not s then 6 else (if not r then 9 else none)) none ≡ false
        → is_opening (if not s then 6 else (if not r then 9 else none)) ≡ true
    go true true h = sym h
    go true false h = refl
    go false r h = refl

-- a row more, whose number is no opening's
next : (holds : Bool) (number rest : ℕ) → is_opening number ≡ false → is_opening rest ≡ false → is_opening (first holds number rest) ≡ false
unfolding first
next true number rest h k = h
next false number rest h k = k

build_number : (qs : List Quote) (s : Buffers) (short : Bool) → is_opening (surface_refusal qs s short) ≡ false
unfolding surface_refusal
build_number qs s short = next short 1 _ refl (next _ 15 _ refl (next _ 16 _ refl (next _ 17 none refl refl)))

same_book : (o : Opening) (b : Book) → opening_of b ≡ o → book_in o (totals_of b) ≡ b
same_book o b e = λ i. book_in (sym e i) (totals_of b)

module _ (opening : Opening) (os : List Offer) (l : Lent) where
  abbrev after : Book
  after = (last_ledger opening os l).book

  abbrev built : Outcome Lengths
  built = build_outcome after (last_ledger opening os l).columns l.buffers

  shut_for : (x : Unopened) (l' : Lent) → QuotesTray opening os l (reply_of (Err x)) l'
      → QuotesFor opening os l (number x.refusal) (0 ∷ 0 ∷ 0 ∷ 0 ∷ []) (0 ∷ 0 ∷ []) l'
  unfolding tray_in reply_of tray_reply book_of built_of lengths_of
  shut_for x l' h = go (eqb (open_refusal opening) none) refl h.answers
    where
      go : (t : Bool) → eqb (open_refusal opening) none ≡ t
          → shut (number x.refusal) x.book ≡ (if t then heard after built else shut (open_refusal opening) zero_book)
          → QuotesFor opening os l (number x.refusal) (0 ∷ 0 ∷ 0 ∷ 0 ∷ []) (0 ∷ 0 ∷ []) l'
      go true e k = let z : ◌≡◌ {A = ℕ} 0 1 = cc in absurd (omega arith)
      go false e k =
          let p : number x.refusal ≡ open_refusal opening = cc in
          let q : x.book ≡ zero_book = cc in
          let u : is_opening (number x.refusal) ≡ true = rw p (opening_number opening e) in
          record { quotes = simp (u, sym q) h; record_written = rw u; lengths_written = rw u }

  quoted_for : (tray : Tray) (l' : Lent) → QuotesTray opening os l (reply_of (Ok tray)) l'
      → QuotesFor opening os l (number_in tray.built) (totals_of tray.book) (lengths_of (outcome tray.built)) l'
  unfolding tray_in reply_of tray_reply book_of built_of
  quoted_for tray l' h = go (eqb (open_refusal opening) none) refl h.answers
    where
      go : (t : Bool) → eqb (open_refusal opening) none ≡ t
          → heard tray.book (outcome tray.built) ≡ (if t then heard after built else shut (open_refusal opening) zero_book)
          → QuotesFor opening os l (number_in tray.built) (totals_of tray.book) (lengths_of (outcome tray.built)) l'
      go false e k = let z : ◌≡◌ {A = ℕ} 0 1 = cc in absurd (omega arith)
      go true e k =
          let d = h.claim (eqb-true (open_refusal opening) none e) in
          let qs = (tallied bsm opening l.columns os).quotes in
          let n : number_in tray.built ≡ surface_refusal qs l.buffers (is_short l.columns) = sym (number_back tray.built) ∙ ap number_of d.build.number
          ∙ number_answered _ _ _ in
          let u : is_opening (number_in tray.built) ≡ false = rw n (build_number qs l.buffers (is_short l.columns)) in
          let b = same_book opening tray.book d.list.inputs in
          record {
            quotes = simp (u, b, built_back tray.built) h;
            record_written = simp (u, b);
            lengths_written = simp (u, built_back tray.built);
          }

  module _ (a : batch.Answers) (c : QuoteColumns) (b : SurfaceBuffers) (numbers : List (List ℕ)) (evidence : List (List Float))
      (strikes expiries volatilities k t g : List Float) (n : List ℕ) (d : AnswersBack a numbers evidence) (e : ColumnsBack c strikes expiries volatilities)
      (f : BuffersBack b k t g n) where
    abbrev back : Lent
    back = lent (answers numbers evidence) (columns_of strikes expiries volatilities) (buffers_of k t g n)

    lent_back : back ≡ lent (answers_in a) (columns_held c) (buffers_in b)
    lent_back = rw (d.numbers, d.evidence, e.strikes, e.expiries, e.volatilities, f.strike_axis, f.expiry_axis, f.grid, f.counts)

    pub shut_tray : (x : Unopened) (told : ℕ) → told ≡ number x.refusal
        → QuotesTray opening os l (reply_of (Err x)) (lent (answers_in a) (columns_held c) (buffers_in b))
        → QuotesFor opening os l told (0 ∷ 0 ∷ 0 ∷ 0 ∷ []) (0 ∷ 0 ∷ []) back
    shut_tray x told p h = rw (p, lent_back) (shut_for x _ h)

    pub quoted_tray : (tray : Tray) (told : ℕ) (w : List ℕ) → told ≡ number_in tray.built → w ≡ lengths_of (outcome tray.built)
        → QuotesTray opening os l (reply_of (Ok tray)) (lent (answers_in a) (columns_held c) (buffers_in b))
        → QuotesFor opening os l told (totals_of tray.book) w back
    quoted_tray tray told w p q h = rw (p, q, lent_back) (quoted_for tray _ h)
