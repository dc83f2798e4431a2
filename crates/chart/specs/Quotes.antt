-- Quotes in order of arrival. The surface is what document 01's rules make of a list of them, and nothing else.
use Rattle.std.specs.Prelude.{ℕ, Bool, true, ◌&&◌, ◌||◌, List, [], ◌∷◌, ltb, length, take, get_or, Float}
use Rattle.std.specs.Float.{nan}
use Rattle.std.specs.List.{list_all, zip}
use Rattle.limits.specs.Ranges.{is_strike, is_expiry, is_volatility}
use Rattle.grid.specs.Layout.{values}

pub record Quote : Type 0 where
  pub strike : Float
  pub expiry : Float
  pub volatility : Float

-- The columns that are lent.
pub record Columns : Type 0 where
  pub strikes : List Float
  pub expiries : List Float
  pub volatilities : List Float

abbrev pub columns_of : List Float → List Float → List Float → Columns
columns_of strikes expiries volatilities = record { strikes = strikes; expiries = expiries; volatilities = volatilities }

-- Entry i of each column.
abbrev pub quote_at : Columns → ℕ → Quote
quote_at c i = record { strike = get_or c.strikes i nan; expiry = get_or c.expiries i nan; volatility = get_or c.volatilities i nan }

-- The columns' first n entries, as columns.
abbrev pub first_of : Columns → ℕ → Columns
first_of c n = record { strikes = take n c.strikes; expiries = take n c.expiries; volatilities = take n c.volatilities }

-- The quotes that the columns keep: their first `kept` entries.
abbrev pub quotes : Columns → ℕ → List Quote
quotes c kept = values (quote_at c) kept 0

-- 1: a column has fewer than 1,024 entries.
unfoldable pub is_short : Columns → Bool
is_short c = ltb (length c.strikes) 1024 || ltb (length c.expiries) 1024 || ltb (length c.volatilities) 1024

-- 2, for a build: every kept entry is in the ranges of 7, 8 and 10.
abbrev pub in_range : Quote → Bool
in_range q = is_strike q.strike && is_expiry q.expiry && is_volatility q.volatility

-- The same test of the columns' entries, side by side.
unfoldable pub all_entries : Columns → Bool
all_entries c =
    list_all (λ (q : (Float × Float) × Float). is_strike q.0.0 && is_expiry q.0.1 && is_volatility q.1) (zip (zip c.strikes c.expiries) c.volatilities)

unfoldable pub all_in_range : List Quote → Bool
all_in_range [] = true
all_in_range (q ∷ qs) = in_range q && all_in_range qs
