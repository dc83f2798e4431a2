-- Demand 3, whole: after every list of offers to a fresh book it agrees with the plain tally, and its build is the surface of the tally's quotes.
-- Assumes nothing.
use borrow.Author.Tests.{eq-eqb, ne_eqb}
use Rattle.limits.specs.Checks.{first, none}
use Rattle.limits.specs.Outcome.{answered}
use Rattle.ledger.specs.declared.Opening.{Opening}
use Rattle.ledger.specs.Book.{open_refusal, opened}
use Rattle.ledger.specs.Claim.{Claim, OpeningClaim, tallied, ledger}
use Rattle.ledger.proofs.Lists.{list_claim, agreed, quoted}
use Rattle.ledger.proofs.Builds.{build_claim}

opens : (opening : Opening) → OpeningClaim opening (opened opening)
unfolding opened answered open_refusal first
opens opening =
    record {
      opens = λ e. rw (eq-eqb (open_refusal opening) none e);
      stays_shut = λ n. rw (ne_eqb (open_refusal opening) none n);
      by_spot = λ s. rw s;
      by_rate = λ s r. rw (s, r);
      accepted = λ s r. rw (s, r);
    }

pub claim : Claim
claim =
    record {
      opening = opens;
      demand_3 = λ model opening ok c os s.
          let l = ledger model opening c os in
          let t = tallied model opening c os in
          let a = agreed model opening c ok os in
          record { list = list_claim model opening c ok os; build = build_claim opening c ok l t a (quoted model opening c ok l t a) s };
    }
