-- What price and greeks refuse, and what they answer in document 01's terms.
use Rattle.std.specs.Prelude.{ℕ, not, Float, Result}
use Rattle.floats.specs.Operators.{decimal}
use Rattle.limits.specs.Ranges.{is_spot, is_strike, is_expiry, is_rate, is_volatility}
use Rattle.limits.specs.Checks.{first, none}
use Rattle.limits.specs.Outcome.{Outcome, answered}
use Rattle.limits.specs.Refusals.{outcome_with}
use Rattle.limits.specs.declared.Refusal.{Refusal}
use Rattle.blackscholes.specs.Model.{price}
use Rattle.blackscholes.specs.Greeks.{greeks}
use Rattle.blackscholes.specs.declared.OptionParams.{OptionParams}
use Rattle.blackscholes.specs.declared.Greeks.{Greeks}

-- 6 to 9: spot, strike, expiry and rate, then what follows.
unfoldable pub option_refusal : OptionParams → ℕ → ℕ
option_refusal p rest =
    first (not (is_spot p.spot)) 6
    (first (not (is_strike p.strike)) 7
    (first (not (is_expiry p.time_to_expiry)) 8
    (first (not (is_rate p.risk_free_rate)) 9
    rest)))

-- Price and greeks check 6 to 10.
unfoldable pub refusal : OptionParams → ℕ
refusal p = option_refusal p (first (not (is_volatility p.volatility)) 10 none)

-- ---- the answers in document 01's terms
-- The price, or a number beside 0.0.
abbrev pub outcome_of_price : Result Float Refusal → Outcome Float
outcome_of_price answer = outcome_with (decimal 0 1) answer

unfoldable pub pricing : OptionParams → Outcome Float
unfolding refusal
pricing p = answered (refusal p) (decimal 0 1) (price p)

-- The greeks, or a number beside seven times 0.0.
abbrev pub no_greeks : Greeks
no_greeks = let o = decimal 0 1 in record { delta = o; gamma = o; theta = o; vega = o; rho = o; vanna = o; volga = o }

abbrev pub outcome_of_greeks : Result Greeks Refusal → Outcome Greeks
outcome_of_greeks answer = outcome_with no_greeks answer

unfoldable pub sensitivities : OptionParams → Outcome Greeks
unfolding refusal
sensitivities p = answered (refusal p) no_greeks (greeks p)
