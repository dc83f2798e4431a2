-- Number 11 is out of the model's reach. Assumes nothing.
use Rattle.blackscholes.specs.Model.{price}
use Rattle.bounds.specs.Finite.{Finite}
use Rattle.bounds.proofs.Runs.{price_at_most, finite_price, finite_answer, error_finite, never_11}
use Rattle.bounds.proofs.Offers.{offer_never_11}

-- THE THEOREM
pub claim : Finite
claim =
    record {
      finite_price = finite_price;
      finite_answer = finite_answer;
      finite_error = λ p market h f l. error_finite (price p) market (price_at_most p h) f l;
      never_11 = λ p market f e. never_11 p market f e;
      offers_never_11 = λ short b o f e. offer_never_11 short b o f e;
    }
