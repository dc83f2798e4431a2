-- A solver fed from its start: the volatilities that it asked for with the prices that it got there, in order, and what it answered last.
use Rattle.std.specs.Prelude.{ℕ, zero, suc, List, [], ◌∷◌, Float}
use Rattle.brent.specs.Outcome.{Reply, asking, ended}
use Rattle.brent.specs.Feed.{most_evaluations, start, feed}

-- A point that was tried, and the price obtained there.
pub record Tried : Type 0 where
  pub at : Float
  pub price : Float

pub record Run : Type 0 where
  pub reply : Reply
  pub tried : List Tried

-- A point tried, and then the rest of the run.
abbrev pub try_next : Float → Float → Run → Run
try_next v price rest = record { reply = rest.reply; tried = record { at = v; price = price } ∷ rest.tried }

-- Prices of a list, fed while the solver asks.
unfoldable pub feed_all : List Float → Reply → Run
feed_all [] r = record { reply = r; tried = [] }
feed_all (price ∷ prices) (asking v s) = try_next v price (feed_all prices (feed s price))
feed_all (price ∷ prices) (ended o s) = record { reply = ended o s; tried = [] }

-- At most n prices of a function, fed while the solver asks.
unfoldable pub feed_with : ℕ → (Float → Float) → Reply → Run
feed_with zero price r = record { reply = r; tried = [] }
feed_with (suc n) price (asking v s) = try_next v (price v) (feed_with n price (feed s (price v)))
feed_with (suc n) price (ended o s) = record { reply = ended o s; tried = [] }

-- From a fresh solver.
unfoldable pub run : Float → List Float → Run
run market prices = feed_all prices (start market)

unfoldable pub run_with : Float → (Float → Float) → Run
run_with market price = feed_with most_evaluations price (start market)
