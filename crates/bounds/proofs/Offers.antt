-- No offer to the book is answered by 11: a record that passes 2 holds a spot and a rate in range. Assumes nothing.
use Rattle.std.specs.Prelude.{if◌then◌else◌}
use mathlib.Core.Path.{◌≡◌, refl, sym, ap, ◌∙◌, subst}
use Prim.Native.Nat.{ℕ}
use native.Mathlib.Omega.{arith}
use mathlib.Core.Bool.{Bool, true, false}
use mathlib.Core.List.{[], ◌∷◌}
use lib.Dec.{leb, eqb}
use borrow.Author.Tests.{eqb-true, not-false}
use Rattle.floats.specs.Operators.{decimal}
use Rattle.floats.proofs.Tests.{by}
use Rattle.limits.specs.Ranges.{is_price, is_spot, is_strike, is_expiry, is_rate}
use Rattle.limits.specs.Checks.{none}
use Rattle.limits.specs.Outcome.{Outcome, refused}
use Rattle.limits.proofs.Checks.{Rows, passes, elsewhere}
use Rattle.ledger.proofs.Sound.{bounds_of}
use Rattle.ledger.proofs.Settled.{own}
use Rattle.brent.specs.declared.Solution.{Solution}
use Rattle.brent.specs.Outcome.{ended, zeros}
use Rattle.brent.specs.Feed.{over}
use Rattle.brent.proofs.Theorem as brent
use Rattle.ledger.specs.Model.{bsm, prices_of, bad_price}
use Rattle.ledger.specs.declared.Book.{Book}
use Rattle.ledger.specs.declared.Offer.{Offer}
use Rattle.ledger.specs.declared.Terms.{Terms}
use Rattle.ledger.specs.declared.Terms.TheVariants.{Volatility, Price}
use Rattle.ledger.specs.Book.{opening_of, is_broken, own_refusal, offer_refusal, end_of, answer_to, answer, offer_outcome}
use Rattle.bounds.specs.Finite.{Held}
use Rattle.bounds.proofs.Runs.{run_never_11}

-- ---- the checks of an offer: none of them is 11
-- 1 to 4
abbrev entry : Bool → Book → Rows
entry short b = (short, 1) ∷ (is_broken b, 2) ∷ (leb 60000 b.heard, 3) ∷ (leb 1024 b.kept, 4) ∷ []

checks_not_11 : (short : Bool) (b : Book) (o : Offer) → offer_refusal short b o ≡ 11 → ⊥
unfolding offer_refusal own_refusal
checks_not_11 short b o h = omega (arith, elsewhere 11 (own o) none refl (elsewhere 11 (entry short b) (own_refusal o) refl h))

-- what the checks let through: a record, a strike and an expiry in range, and terms that pass 5
record Passed (b : Book) (o : Offer) : Type 0 where
  opening : (is_spot b.spot ≡ true) × (is_rate b.rate ≡ true)
  strike : is_strike o.strike ≡ true
  expiry : is_expiry o.expiry ≡ true
  price : bad_price o.terms ≡ false

passed : (short : Bool) (b : Book) (o : Offer) → offer_refusal short b o ≡ none → Passed b o
unfolding offer_refusal own_refusal
passed short b o h =
    let e = passes (entry short b) (own_refusal o) refl h in
    let p = (passes (own o) none refl e.1).0 in
    record {
      opening = let s = bounds_of b e.0.1.0 in (s.spot, s.rate);
      strike = not-false _ p.1.0;
      expiry = not-false _ p.1.1.0;
      price = p.0;
    }

-- ---- the solver of an offer with a price
answer_not_11 : (b : Book) (o : Offer) → Passed b o → (terms : Terms) → o.terms ≡ terms → Held terms → {x : Solution}
    → answer_to (prices_of bsm (opening_of b) o) terms ≡ refused 11 x → ⊥
unfolding answer_to
answer_not_11 b o h (Volatility v) t f e = cc
answer_not_11 b o h (Price kind market) t f {x} e =
    let prices = prices_of bsm (opening_of b) o kind in
    let d = ((brent.claim).modelled market prices).done_with in
    let z : d.0 ≡ refused 11 x = unfold end_of in sym (ap end_of d.1) ∙ e in
    let m : is_price market ≡ true = not-false (is_price market) (subst (λ (y : Terms). bad_price y ≡ false) t h.price) in
    run_never_11
    (record {
      spot = b.spot;
      strike = o.strike;
      time_to_expiry = o.expiry;
      risk_free_rate = b.rate;
      volatility = decimal 0 1;
      option_type = kind;
    }) market f
    (record { spot = h.opening.0; strike = h.strike; expiry = h.expiry; rate = h.opening.1; left = refl }) m
    (d.1 ∙ ap (λ (y : Outcome Solution). ended y over) z)

pub offer_never_11 : (short : Bool) (b : Book) (o : Offer) → Held o.terms → {x : Solution} → offer_outcome bsm short b o ≡ refused 11 x → ⊥
unfolding offer_outcome
offer_never_11 short b o f {x} e =
    by (λ (r : Outcome Solution). r ≡ refused 11 x → ⊥)
    (λ (t : Bool). if t then answer bsm (opening_of b) o else refused (offer_refusal short b o) (zeros 0)) (eqb (offer_refusal short b o) none)
    (λ t. answer_not_11 b o (passed short b o (eqb-true (offer_refusal short b o) none t)) o.terms refl f)
    (λ t z. checks_not_11 short b o (let n : offer_refusal short b o ≡ 11 = cc in n)) e
