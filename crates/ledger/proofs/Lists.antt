-- A list of offers: book and tally agree after it, offer by offer. Assumes nothing.
use mathlib.Core.Path.{◌≡◌, ◌∙◌}
use Prim.Native.Nat.{ℕ, ◌+◌}
use native.Mathlib.Nat.{zero-add}
use native.Mathlib.Omega.{arith}
use mathlib.Core.List.{List}
use lib.ListN.{take}
use Rattle.limits.specs.Checks.{none}
use Rattle.limits.specs.Outcome.{Outcome, values_of}
use Rattle.brent.specs.declared.Solution.{Solution}
use Rattle.chart.proofs.Kept.{read_back}
use Rattle.ledger.specs.Model.{Model}
use Rattle.ledger.specs.declared.Opening.{Opening}
use Rattle.ledger.specs.Tally.{Tally, fresh as noQuotes, step}
use Rattle.ledger.specs.Book.{Columns, open_refusal, is_short}
use Rattle.ledger.specs.Build.{quotes_of}
use Rattle.ledger.specs.Claim.{Ledger, hear, reply, Right, holding, tallied, first_ledger, ledger, ListClaim}
use Rattle.ledger.specs.declared.Offer.{Offer}
use Rattle.ledger.proofs.Folds.{holds_after, holds_each, holds_sum}
use Rattle.ledger.proofs.Quoted.{column_front}
use Rattle.ledger.proofs.Agree.{Agree, start, unbroken}
use Rattle.ledger.proofs.Once.{once}

module _ (model : Model) (opening : Opening) (was : Columns) (ok : open_refusal opening ≡ none) where
  abbrev evaluations_in : Outcome Solution → ℕ
  evaluations_in r = (values_of r).evaluations

  abbrev tells : Tally → Offer → Tally
  tells = step model opening (is_short was)

  keeps : (l : Ledger) (t : Tally) (o : Offer) → Agree opening was l t → Agree opening was (hear model l o) (tells t o)
  unfolding hear
  keeps l t o a = (once model opening was l t o ok a).agree

  reports : (l : Ledger) (t : Tally) (o : Offer) → Agree opening was l t
      → (hear model l o).book.evaluations ≡ l.book.evaluations + evaluations_in (reply model l o)
  reports l t o a = omega (arith, a.evaluations, (keeps l t o a).evaluations, (once model opening was l t o ok a).right.counted)

  -- the columns' first entries, read by their index
  pub quoted : (l : Ledger) (t : Tally) → Agree opening was l t → quotes_of l.book l.columns ≡ t.quotes
  quoted l t a =
      rw (a.kept, a.columns)
      (read_back (holding t.quotes was) t.quotes
      (column_front _ t.quotes was.strikes) (column_front _ t.quotes was.expiries) (column_front _ t.quotes was.volatilities))

  pub agreed : (os : List Offer) → Agree opening was (ledger model opening was os) (tallied model opening was os)
  agreed os = holds_after (hear model) tells (Agree opening was) keeps (first_ledger model opening was os) noQuotes os (start opening was)

  pub list_claim : (os : List Offer) → ListClaim model opening was os
  list_claim os =
      let first = first_ledger model opening was os in
      let a = agreed os in
      record {
        each = holds_each (hear model) tells (Agree opening was) keeps (reply model) (Right model opening (is_short was))
            (λ l t o p. (once model opening was l t o ok p).right) first noQuotes os (start opening was);
        kept = a.kept;
        quotes = quoted (ledger model opening was os) (tallied model opening was os) a;
        heard = a.heard;
        refused = a.refused;
        evaluations = a.evaluations;
        inputs = a.inputs;
        columns = a.columns;
        never_2 = λ n. unbroken opening was _ _ ok (agreed (take n os));
        reported = holds_sum (hear model) tells (Agree opening was) keeps (reply model)
            (λ l. l.book.evaluations) evaluations_in reports first noQuotes os (start opening was)
            ∙ zero-add _;
      }
