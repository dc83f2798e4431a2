-- The reading at the money: its numbers, its strike and its volatility. Assumes nothing.
use Prim.Native.Nat.{ℕ, ◌<◌}
use mathlib.Core.Path.{◌≡◌, refl, sym, ap, ◌∙◌}
use mathlib.Core.Bool.{Bool, true}
use mathlib.Core.List.{List, [], ◌∷◌}
use native.Mathlib.Omega.{arith}
use lib.ListN.{take, get_or}
use lib.Seq.{length-take-le, get_or-take}
use lib.Ieee.{Float, nan}
use Rattle.limits.specs.Checks.{first, none}
use Rattle.limits.proofs.Checks.{none_passes, elsewhere}
use Rattle.limits.proofs.Answers.{number_answered, done_answered, refused_answered, none_answered}
use Rattle.limits.specs.Outcome.{Outcome, done, is_done, number_of, values_of}
use Rattle.grid.specs.Readings.{reading}
use Rattle.grid.specs.Nearest.{nearest, nearest_strike, axis_refusal, IsNearest}
use Rattle.grid.proofs.Nearest.{nearest_laws}
use Rattle.grid.proofs.AtAxis.{at_axis_passed, at_axis_laws}
use Rattle.ledger.specs.Book.{is_broken}
use Rattle.ledger.specs.Money.{money_strike, at_the_money, money, gap_at, MoneyClaim}
use Rattle.ledger.specs.declared.Book.{Book}

module _ (b : Book) (K E grid : List Float) (strikes expiries : ℕ) (expiry : Float) where
  strike_is : money_strike b K strikes ≡ nearest_strike b.spot (take strikes K)
  strike_is = refl

  abbrev strike : Float
  strike = money_strike b K strikes

  abbrev read : Outcome Float
  read = reading K E grid strikes expiries strike expiry

  abbrev gap : Bool
  gap = gap_at b K E grid strikes expiries expiry

  -- the number of the read: 19 does not hold
  read_number : number_of read ≡ axis_refusal K E grid strikes expiries expiry gap
  unfolding reading
  read_number = number_answered _ _ _ ∙ (at_axis_laws K E grid strikes expiries expiry gap).nearest b.spot

  number : number_of (money b K E grid strikes expiries expiry) ≡ first (is_broken b) 2 (axis_refusal K E grid strikes expiries expiry gap)
  unfolding at_the_money
  number = number_answered _ _ _ ∙ ap (first (is_broken b) 2) read_number

  -- where it is done, so is the read
  module _ (d : is_done (money b K E grid strikes expiries expiry) ≡ true) where
    values : values_of (money b K E grid strikes expiries expiry) ≡ record { strike = strike; volatility = values_of read }
    unfolding at_the_money
    values = (done_answered _ _ _ d).1

    read_done : number_of read ≡ none
    unfolding at_the_money
    read_done = (none_passes (is_broken b) 2 (number_of read) (omega arith) (done_answered _ _ _ d).0).1

    read_is : read ≡ done (values_of read)
    unfolding reading
    read_is = none_answered _ _ _ read_done

    there : (n : ℕ) × IsNearest b.spot (take strikes K) n × (strike ≡ get_or K n nan) × (n < strikes)
    there =
        let p = at_axis_passed K E grid strikes expiries expiry gap (sym read_number ∙ read_done) in
        let N = nearest_laws b.spot (take strikes K) in
        let at = nearest b.spot (take strikes K) in
        let within : at < strikes = (let l = length-take-le strikes K p.0 in omega (arith, (N.is p.1).within)) in
        (at, N.is p.1, N.strike p.1 ∙ get_or-take strikes K at nan within, within)

  pub money_claim : MoneyClaim b K E grid strikes expiries expiry
  unfolding at_the_money
  money_claim =
      record {
        number = number;
        never_19 = λ h. (at_axis_laws K E grid strikes expiries expiry gap).never_19
            (elsewhere 19 ((is_broken b, 2) ∷ []) (axis_refusal K E grid strikes expiries expiry gap) refl (sym number ∙ h));
        zeros = λ d. refused_answered _ _ _ d;
        nearest = λ d. rw (values d) (there d);
        read = λ d. rw (values d) (read_is d);
      }
