-- Implied volatility: document 01, "`implied_volatility` checks 5 to 9, then solves." Its solver is Brent's, over the model's prices.
use Rattle.std.specs.Prelude.{ℕ, ◌≡◌, not, eqb, Float, Result, if◌then◌else◌}
use Rattle.limits.specs.Ranges.{is_price}
use Rattle.limits.specs.Checks.{first, none}
use Rattle.limits.specs.Outcome.{refused}
use Rattle.brent.specs.declared.Solution.{Solution}
use Rattle.brent.specs.declared.Unsolved.{Unsolved}
use Rattle.brent.specs.Outcome.{Reply, asking, ended, zeros}
unfoldable pub use Rattle.brent.specs.Outcome.{outcome_of_implied}
use Rattle.brent.specs.Feed.{over}
use Rattle.brent.specs.Run.{run_with}
use Rattle.blackscholes.specs.Model.{at_volatility, price}
use Rattle.blackscholes.specs.Checks.{option_refusal}
use Rattle.blackscholes.specs.declared.OptionParams.{OptionParams}

-- 5, then 6 to 9.
unfoldable pub implied_refusal : Float → OptionParams → ℕ
implied_refusal market p = first (not (is_price market)) 5 (option_refusal p none)

-- The answer as the solver's last reply: it has ended.
abbrev pub replied : Result Solution Unsolved → Reply
replied r = ended (outcome_of_implied r) over

-- The solver's last reply on the model's prices; where a check holds no solver starts.
unfoldable pub implied : Float → OptionParams → Reply
unfolding implied_refusal
implied market p =
    if eqb (implied_refusal market p) none
    then (run_with market (λ v. price (at_volatility p v))).reply
    else ended (refused (implied_refusal market p) (zeros 0)) over

-- A solver that has ended, as every run on the prices of a function does (brent's theorem).
abbrev pub Closed : Reply → Type 0
Closed (asking v s) = ⊥
Closed (ended o s) = s ≡ over
