-- The solver of a priced offer: brent's run on the model's prices. Assumes nothing.
use Rattle.std.specs.Prelude.{Result, Ok, Err}
use mathlib.Core.Path.{◌≡◌, refl, sym, ap, subst}
use mathlib.Core.Bool.{Bool, true, false, not}
use mathlib.Core.List.{[], ◌∷◌}
use native.Mathlib.Omega.{arith}
use borrow.Author.Tests.{not-false}
use lib.Ieee.{Float}
use Rattle.floats.specs.Operators.{decimal}
use Rattle.limits.specs.Ranges.{is_price, is_spot, is_strike, is_expiry, is_rate}
use Rattle.limits.specs.Checks.{first, none}
use Rattle.limits.proofs.Checks.{Rows, passes}
use Rattle.limits.specs.Outcome.{done}
use Rattle.brent.specs.Run.{run_with}
use Rattle.blackscholes.specs.Checks.{option_refusal}
use Rattle.blackscholes.specs.Implied.{implied_refusal, implied, outcome_of_implied, replied}
use Rattle.blackscholes.specs.declared.OptionType.{OptionType}
use Rattle.blackscholes.specs.declared.OptionParams.{OptionParams}
use Rattle.brent.specs.declared.Solution.{Solution}
use Rattle.brent.specs.declared.Unsolved.{Unsolved}
use Rattle.ledger.specs.Model.{bsm, prices_of}
use Rattle.ledger.specs.Book.{opening_of, is_broken, own_refusal, answer_to, answer, end_of}
use Rattle.ledger.specs.Calls.{Ended, Turned, Solves}
use Rattle.ledger.specs.declared.Book.{Book}
use Rattle.ledger.specs.declared.Offer.{Offer}
use Rattle.ledger.specs.declared.Terms.TheVariants.{Volatility, Price}
use Rattle.ledger.proofs.Sound.{bounds_of}
use Rattle.ledger.proofs.Ends.{run_ended}

-- ---- no check holds
in_ranges : (a b c d e : Bool) → a ≡ true → b ≡ true → c ≡ true → d ≡ true → e ≡ true
    → first (not a) 5 (first (not b) 6 (first (not c) 7 (first (not d) 8 (first (not e) 9 none)))) ≡ none
unfolding first
in_ranges a b c d e p q r s t = simp (p, q, r, s, t)

record PricePass (o : Offer) (market : Float) : Type 0 where
  pub in_price : is_price market ≡ true
  pub in_strike : is_strike o.strike ≡ true
  pub in_expiry : is_expiry o.expiry ≡ true

price_pass : (o : Offer) (kind : OptionType) (market : Float) → o.terms ≡ Price kind market → own_refusal o ≡ none → PricePass o market
unfolding own_refusal
price_pass o kind market e n =
    let rows : Rows = (not (is_price market), 5) ∷ (not (is_strike o.strike), 7) ∷ (not (is_expiry o.expiry), 8) ∷ (false, 10) ∷ [] in
    let p = (passes rows none refl (rw e at n)).0 in
    record { in_price = not-false _ p.0; in_strike = not-false _ p.1.0; in_expiry = not-false _ p.1.1.0 }

-- ---- what the terms come to
-- the option that the solver is asked for; its volatility does not matter
abbrev pub option_of : Book → Offer → OptionType → Float → OptionParams
option_of b o kind v =
    record {
      spot = b.spot;
      strike = o.strike;
      time_to_expiry = o.expiry;
      risk_free_rate = b.rate;
      volatility = v;
      option_type = kind;
    }

pub itself : (b : Book) (o : Offer) (v : Float) → o.terms ≡ Volatility v
    → Solves (answer bsm (opening_of b) o) (done (record { volatility = v; error = decimal 0 1; c = decimal 0 1; c_error = decimal 0 1; evaluations = 0 }))
unfolding answer_to
itself b o v e = record { outcome = rw e; ended = omega arith }

pub solved : (b : Book) (o : Offer) (kind : OptionType) (market v : Float) (r : Result Solution Unsolved) → o.terms ≡ Price kind market → is_broken b ≡ false
    → own_refusal o ≡ none
    → replied r ≡ implied market (option_of b o kind v)
    → Solves (answer bsm (opening_of b) o) (outcome_of_implied r)
unfolding answer_to end_of implied implied_refusal option_refusal
solved b o kind market v r p h n e =
    let w = price_pass o kind market p n in
    let s = bounds_of b h in
    let z = in_ranges (is_price market) (is_spot b.spot) (is_strike o.strike) (is_expiry o.expiry) (is_rate b.rate) w.in_price s.spot
    w.in_strike w.in_expiry s.rate in
    let prices = prices_of bsm (opening_of b) o kind in
    let t : outcome_of_implied r ≡ end_of (run_with market prices).reply = ap end_of (rw z at e) in
    record { outcome = rw p t; ended = subst Ended (sym t) (run_ended market prices) }

-- ---- an answer that is not the one is the other
pub not_found : (a : Result Solution Unsolved) → ((x : Solution) → a ≡ Ok x → ⊥) → Ended (outcome_of_implied a) → Turned (outcome_of_implied a)
unfolding outcome_of_implied
not_found (Ok x) h e = absurd (h x refl)
not_found (Err why) h e = e

pub not_refused : (a : Result Solution Unsolved) → ((why : Unsolved) → a ≡ Err why → ⊥) → Turned (outcome_of_implied a) → ⊥
unfolding outcome_of_implied
not_refused (Ok x) h t = t
not_refused (Err why) h t = h why refl
