-- The words of an answer: which figure stands at which place. A float is written as its bits, a count or a number as itself.
use Rattle.std.specs.Prelude.{ℕ, List, [], ◌∷◌, Float, if◌then◌else◌}
use Rattle.std.specs.Float.{binary64}
use Rattle.std.specs.Float.Ieee.{to_bits}
use Rattle.limits.specs.Ranges.{is_price, lowest_volatility, highest_volatility}
use Rattle.limits.specs.Outcome.{Outcome, number_of, values_of}
use Rattle.brent.specs.declared.Solution.{Solution}
use Rattle.blackscholes.specs.declared.Greeks.{Greeks}
use Rattle.blackscholes.specs.declared.OptionParams.{OptionParams}
use Rattle.blackscholes.specs.Model.{at_volatility}
use Rattle.blackscholes.specs.Checks.{pricing}
use Rattle.ledger.specs.declared.Money.{Money}
use Rattle.chart.specs.declared.Lengths.{Lengths}

abbrev pub bits : Float → ℕ
bits x = to_bits binary64 x

-- A price or a reading: its number and its value.
abbrev pub value_words : Outcome Float → List ℕ
value_words o = number_of o ∷ bits (values_of o) ∷ []

-- A reading at the money: number, strike, volatility.
abbrev pub money_words : Outcome Money → List ℕ
money_words o = number_of o ∷ bits (values_of o).strike ∷ bits (values_of o).volatility ∷ []

-- An offer: number, evaluations, volatility, error, point c, the error there.
abbrev pub offer_words : Outcome Solution → List ℕ
offer_words o =
    let x = values_of o in
    number_of o ∷ x.evaluations ∷ bits x.volatility ∷ bits x.error ∷ bits x.c ∷ bits x.c_error ∷ []

-- Delta, gamma, theta, vega, rho, vanna, volga behind a number.
abbrev pub greeks_words : Outcome Greeks → List ℕ
greeks_words o =
    let g = values_of o in
    number_of o ∷ bits g.delta ∷ bits g.gamma ∷ bits g.theta ∷ bits g.vega ∷ bits g.rho ∷ bits g.vanna ∷ bits g.volga ∷ []

-- A build: number, strikes, expiries.
abbrev pub build_words : Outcome Lengths → List ℕ
build_words o = number_of o ∷ (values_of o).strikes ∷ (values_of o).expiries ∷ []

-- A cell: its value and its count.
abbrev pub cell_words : Float → ℕ → List ℕ
cell_words value count = bits value ∷ count ∷ []

-- The model's prices at the two ends of a solver, 0.000001 and 10, as a price is answered; 5 where no solver starts.
abbrev pub ends_words : Float → OptionParams → List ℕ
ends_words market p =
    let low = pricing (at_volatility p lowest_volatility) in
    let high = pricing (at_volatility p highest_volatility) in
    if is_price market then number_of low ∷ bits (values_of low) ∷ bits (values_of high) ∷ [] else 5 ∷ 0 ∷ 0 ∷ []
