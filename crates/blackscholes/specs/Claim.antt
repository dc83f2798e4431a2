-- What document 01 says of the calls: when each of 5 to 10 is given, that a refusal's values are 0.0, and that nothing of an answer is lost in its reading.
use Rattle.std.specs.Prelude.{ℕ, ◌≡◌, true, false, Float, Result}
use Rattle.floats.specs.Operators.{decimal}
use Rattle.limits.specs.Ranges.{is_price, is_spot, is_strike, is_expiry, is_rate, is_volatility}
use Rattle.limits.specs.Outcome.{Outcome, done, refused}
use Rattle.brent.specs.declared.Solution.{Solution}
use Rattle.brent.specs.declared.Solver.{Solver}
use Rattle.brent.specs.Outcome.{Reply, ended}
use Rattle.brent.specs.Feed.{over}
use Rattle.brent.specs.Run.{run_with}
use Rattle.brent.specs.Claim as brent
use Rattle.blackscholes.specs.Model.{at_volatility, price}
use Rattle.blackscholes.specs.Greeks.{greeks}
use Rattle.blackscholes.specs.Checks.{outcome_of_price, pricing, outcome_of_greeks, sensitivities}
use Rattle.blackscholes.specs.Implied.{outcome_of_implied, implied}
use Rattle.blackscholes.specs.declared.OptionParams.{OptionParams}
use Rattle.blackscholes.specs.declared.Greeks.{Greeks}
use Rattle.brent.specs.declared.Unsolved.{Unsolved}
use Rattle.limits.specs.declared.Refusal.{Refusal}

-- ---- "stops at the first that holds; the number is given in no other circumstance": each number where its own range fails and those before it hold
pub data OfOption (p : OptionParams) : ℕ → Type 0 where
  by_6 : is_spot p.spot ≡ false → OfOption p 6
  by_7 : is_spot p.spot ≡ true → is_strike p.strike ≡ false → OfOption p 7
  by_8 : is_spot p.spot ≡ true → is_strike p.strike ≡ true → is_expiry p.time_to_expiry ≡ false → OfOption p 8
  by_9 : is_spot p.spot ≡ true → is_strike p.strike ≡ true → is_expiry p.time_to_expiry ≡ true → is_rate p.risk_free_rate ≡ false → OfOption p 9

pub record InRange (p : OptionParams) : Type 0 where
  pub spot : is_spot p.spot ≡ true
  pub strike : is_strike p.strike ≡ true
  pub expiry : is_expiry p.time_to_expiry ≡ true
  pub rate : is_rate p.risk_free_rate ≡ true

-- Of a price or greeks: 10 too.
pub data OfModel (p : OptionParams) : ℕ → Type 0 where
  by_option : {n : ℕ} → OfOption p n → OfModel p n
  by_10 : InRange p → is_volatility p.volatility ≡ false → OfModel p 10

-- Of an implied volatility: 5 first.
pub data OfImplied (market : Float) (p : OptionParams) : ℕ → Type 0 where
  by_5 : is_price market ≡ false → OfImplied market p 5
  by_option : {n : ℕ} → is_price market ≡ true → OfOption p n → OfImplied market p n

-- ---- the answers. "A refusal's value fields are 0.0."
pub record Blank (g : Greeks) : Type 0 where
  pub delta : g.delta ≡ decimal 0 1
  pub gamma : g.gamma ≡ decimal 0 1
  pub theta : g.theta ≡ decimal 0 1
  pub vega : g.vega ≡ decimal 0 1
  pub rho : g.rho ≡ decimal 0 1
  pub vanna : g.vanna ≡ decimal 0 1
  pub volga : g.volga ≡ decimal 0 1

pub data PriceAnswer (p : OptionParams) : Outcome Float → Type 0 where
  turned_down : {n : ℕ} {x : Float} → OfModel p n → x ≡ decimal 0 1 → PriceAnswer p (refused n x)
  priced : InRange p → is_volatility p.volatility ≡ true → PriceAnswer p (done (price p))

pub data GreeksAnswer (p : OptionParams) : Outcome Greeks → Type 0 where
  turned_down : {n : ℕ} {g : Greeks} → OfModel p n → Blank g → GreeksAnswer p (refused n g)
  found : InRange p → is_volatility p.volatility ≡ true → GreeksAnswer p (done (greeks p))

-- A check that holds comes with no evaluation; else the answer is the solver's last on the model's prices.
pub data ImpliedAnswer (market : Float) (p : OptionParams) : Reply → Type 0 where
  turned_down : {n : ℕ} {x : Solution} → OfImplied market p n → brent.Blank 0 x → ImpliedAnswer market p (ended (refused n x) over)
  solved : is_price market ≡ true → InRange p → ImpliedAnswer market p (run_with market (λ v. price (at_volatility p v))).reply

pub record Claim : Type 0 where
  pub price_answer : (p : OptionParams) → PriceAnswer p (pricing p)
  pub greeks_answer : (p : OptionParams) → GreeksAnswer p (sensitivities p)
  pub implied_answer : (market : Float) (p : OptionParams) → ImpliedAnswer market p (implied market p)
  -- the solver's own refusals too: "except all the evaluations made"
  pub implied_blank : (market : Float) (p : OptionParams) {n : ℕ} {x : Solution} {s : Solver} → implied market p ≡ ended (refused n x) s
      → brent.Blank x.evaluations x
  -- Nothing of an answer is lost in its reading.
  pub price_read : (a b : Result Float Refusal) → outcome_of_price a ≡ outcome_of_price b → a ≡ b
  pub greeks_read : (a b : Result Greeks Refusal) → outcome_of_greeks a ≡ outcome_of_greeks b → a ≡ b
  pub implied_read : (a b : Result Solution Unsolved) → outcome_of_implied a ≡ outcome_of_implied b → a ≡ b
