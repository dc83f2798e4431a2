-- One name that opens the definitions that the functions are equal to, with the literals of the code. Assumes nothing.
use Rattle.std.specs.Prelude.{⊤}
use Rattle.blackscholes.specs.Model.{discount, price}
use Rattle.blackscholes.specs.Checks.{option_refusal, refusal, pricing, sensitivities}
use Rattle.limits.specs.Checks.{first}
use Rattle.blackscholes.specs.Implied.{implied_refusal, implied}
use Rattle.limits.specs.Outcome.{answered}
use Rattle.brent.specs.Outcome.{outcome_of_implied}

unfoldable pub opened : ⊤
unfolding discount price option_refusal refusal pricing sensitivities first implied_refusal implied answered outcome_of_implied
opened = tt
