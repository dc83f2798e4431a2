-- Document 02, S-2: "At-the-money takes the book record, checked by 2, and becomes the strike nearest its spot by float difference, the lower one on a tie."
-- It reads there as `interpolate` does. The record's part of 2 is tested before the surface's.
use Rattle.std.specs.Prelude.{ℕ, ◌<◌, ◌≡◌, Bool, true, false, List, take, get_or, Float, Result}
use Rattle.std.specs.Float.{nan}
use Rattle.floats.specs.Operators.{decimal}
use Rattle.limits.specs.Checks.{first}
use Rattle.limits.specs.Outcome.{Outcome, done, is_done, number_of, values_of, answered}
use Rattle.grid.specs.Readings.{bracket, corners, has_gap}
unfoldable pub use Rattle.grid.specs.Readings.{reading}
use Rattle.grid.specs.Nearest.{axis_refusal, IsNearest}
unfoldable pub use Rattle.grid.specs.Nearest.{nearest_strike}
unfoldable pub use Rattle.ledger.specs.Book.{is_broken}
use Rattle.ledger.specs.declared.Book.{Book}
use Rattle.ledger.specs.declared.Money.{Money}
use Rattle.limits.specs.Refusals.{outcome_with}
use Rattle.limits.specs.declared.Refusal.{Refusal}

-- The strike nearest the record's spot, of those in use.
abbrev pub money_strike : Book → List Float → ℕ → Float
money_strike b strikeAxis strikes = nearest_strike b.spot (take strikes strikeAxis)

-- A refusal's values.
abbrev pub no_money : Money
no_money = record { strike = decimal 0 1; volatility = decimal 0 1 }

-- 2 of the record, then what a read at that strike answers.
unfoldable pub at_the_money : Book → List Float → List Float → List Float → ℕ → ℕ → Float → Outcome Money
at_the_money b strikeAxis expiryAxis grid strikes expiries expiry =
    let strike = money_strike b strikeAxis strikes in
    let read = reading strikeAxis expiryAxis grid strikes expiries strike expiry in
    answered (first (is_broken b) 2 (number_of read)) no_money (record { strike = strike; volatility = values_of read })

-- The answer in document 01's terms.
abbrev pub money_outcome : Result Money Refusal → Outcome Money
money_outcome answer = outcome_with no_money answer

-- ---- what it comes to
module _ (b : Book) (K E grid : List Float) (strikes expiries : ℕ) (expiry : Float) where
  abbrev pub money : Outcome Money
  money = at_the_money b K E grid strikes expiries expiry

  -- Whether a cell that the read uses is not-a-number.
  abbrev pub gap_at : Bool
  gap_at = has_gap (corners (bracket (take strikes K) (money_strike b K strikes)) (bracket (take expiries E) expiry) grid)

  pub record MoneyClaim : Type 0 where
    -- 2 of the record, whatever the surface; then 2, 15, 18 and 20 of the surface, and no 19
    pub number : number_of money ≡ first (is_broken b) 2 (axis_refusal K E grid strikes expiries expiry gap_at)
    pub never_19 : number_of money ≡ 19 → ⊥
    pub zeros : is_done money ≡ false → values_of money ≡ record { strike = decimal 0 1; volatility = decimal 0 1 }
    -- a volatility comes with the nearest strike, and is what `interpolate` reads there
    pub nearest : is_done money ≡ true → (n : ℕ) × IsNearest b.spot (take strikes K) n × ((values_of money).strike ≡ get_or K n nan) × (n < strikes)
    pub read : is_done money ≡ true → reading K E grid strikes expiries (values_of money).strike expiry ≡ done (values_of money).volatility
