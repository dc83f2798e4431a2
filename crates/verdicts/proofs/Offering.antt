-- An offer from its number to what it leaves. Assumes nothing.
use Rattle.std.specs.Prelude.{Err, if◌then◌else◌}
use mathlib.Core.Path.{◌≡◌, refl, sym, subst}
use mathlib.Core.Bool.{Bool, true, false}
use Prim.Native.Nat.{ℕ, ◌<◌, ◌≤◌}
use native.Mathlib.Omega.{arith}
use lib.Dec.{eqb}
use borrow.Author.Tests.{eq-eqb, ne_eqb, eqb-true}
use Rattle.limits.specs.Checks.{none}
use Rattle.limits.specs.Outcome.{Outcome, done, refused}
use Rattle.limits.specs.Refusals.{number}
use Rattle.limits.specs.declared.Refusal.{Refusal}
use Rattle.limits.proofs.Refusals.{some}
use Rattle.brent.specs.declared.Solution.{Solution}
use Rattle.brent.specs.Outcome.{zeros, outcome_of_implied}
use Rattle.brent.specs.Feed.{most_evaluations}
use Rattle.ledger.specs.Model.{Model}
use Rattle.ledger.specs.Book.{Columns, opening_of, is_short, is_broken, offer_refusal, answer, offer_outcome}
use Rattle.ledger.specs.Calls.{Within, Ended, Counts, Counted}
use Rattle.ledger.specs.declared.Book.{Book}
use Rattle.ledger.specs.declared.Offer.{Offer}
use Rattle.ledger.proofs.Sound.{bounds_of}
use Rattle.chart.proofs.Kept.{long}
use Rattle.verdicts.proofs.Records.{counted, AllPass, all_pass}

-- a record in bounds that is open has room for an offer more
counts : (b : Book) (made : ℕ) → is_broken b ≡ false → b.heard < 60000 → made ≤ most_evaluations → Counts b made
counts b made h p q = let s = bounds_of b h in record { hears = p; turned = omega arith; few = omega arith }

module _ (model : Model) (short : Bool) (b : Book) (o : Offer) where
  -- ---- a check holds
  module _ (refusal : Refusal) (e : number refusal ≡ offer_refusal short b o) where
    pub by_check : outcome_of_implied (Err (record { refusal = refusal; evaluations = 0 })) ≡ offer_outcome model short b o
    unfolding offer_outcome outcome_of_implied
    by_check = sym (rw (sym e, ne_eqb (number refusal) none (some refusal)))

    pub by_check_counted : Counted b (outcome_of_implied (Err (record { refusal = refusal; evaluations = 0 })))
    unfolding outcome_of_implied zeros
    by_check_counted h =
        let w = counted short b o (subst (λ (n : ℕ). 3 < n) e h) in
        counts b 0 w.sound w.room_to_hear (omega arith)

  -- ---- none does
  pub by_terms : offer_refusal short b o ≡ none → answer model (opening_of b) o ≡ offer_outcome model short b o
  unfolding offer_outcome
  by_terms e = sym (rw (eq-eqb (offer_refusal short b o) none e))

  pub by_terms_counted : offer_refusal short b o ≡ none → (r : Outcome Solution) → Ended r → Counted b r
  by_terms_counted e (done x) h = let w = all_pass short b o e in (w.place, counts b x.evaluations w.entry.sound w.entry.room_to_hear h)
  by_terms_counted e (refused n x) h =
      let w = all_pass short b o e in
      λ k. counts b x.evaluations w.entry.sound w.entry.room_to_hear h.1

  -- an accepted offer passed every check
  accepted : (x : Solution) → done x ≡ offer_outcome model short b o → AllPass short b o
  unfolding offer_outcome
  accepted x e = go (eqb (offer_refusal short b o) none) refl e
    where
      go : (t : Bool) → eqb (offer_refusal short b o) none ≡ t
          → done x ≡ (if t then answer model (opening_of b) o else refused (offer_refusal short b o) (zeros 0)) → AllPass short b o
      go true p q = all_pass short b o (eqb-true (offer_refusal short b o) none p)
      go false p q = let z : ◌≡◌ {A = ℕ} 0 1 = cc in absurd (omega arith)

within : (at : ℕ) (c : Columns) → is_short c ≡ false → at < 1024 → Within at c
within at c h p = let l = long c h in record { strikes = omega arith; expiries = omega arith; volatilities = omega arith }

-- and index kept is in the columns
pub kept_within : (model : Model) (b : Book) (c : Columns) (o : Offer) (x : Solution) → done x ≡ offer_outcome model (is_short c) b o → Within b.kept c
kept_within model b c o x e = let w = accepted model (is_short c) b o x e in within b.kept c w.entry.long w.place
