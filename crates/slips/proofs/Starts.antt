-- What the reply to a start says of the market price: a solver that does not ask has none. Assumes nothing.
use Rattle.std.specs.Prelude.{if◌then◌else◌}
use mathlib.Core.Path.{◌≡◌, refl}
use mathlib.Core.Bool.{Bool, true, false}
use Prim.Native.Nat.{ℕ}
use native.Mathlib.Omega.{arith}
use lib.Ieee.{Float}
use Rattle.limits.specs.Ranges.{is_price, lowest_volatility}
use Rattle.limits.specs.Outcome.{Outcome}
use Rattle.brent.specs.declared.Solution.{Solution}
use Rattle.brent.specs.declared.Solver.{Solver}
use Rattle.brent.specs.declared.Answer.{Answer}
use Rattle.brent.specs.declared.Answer.TheVariants.{Ask, Ended}
use Rattle.brent.specs.Outcome.{Reply, asking, ended, outcome, outcome_of_implied}
use Rattle.brent.specs.Feed.{start, fresh, refuse}

-- a start, by whether the market price is one
abbrev begun : Bool → Float → Reply
begun b m = if b then (asking lowest_volatility (fresh m)) else (refuse 5 0)

rests : (b : Bool) (m : Float) (o : Outcome Solution) (s : Solver) → ended o s ≡ begun b m → b ≡ false
unfolding refuse
rests true m o s e = let z : ◌≡◌ {A = ℕ} 0 1 = cc in absurd (omega arith)
rests false m o s e = refl

pub unpriced : (m : Float) (a : Answer) → ((v : Float) (s : Solver) → a ≡ Ask v s → ⊥) → outcome a ≡ start m → is_price m ≡ false
unfolding outcome start
unpriced m (Ask v s) h e = absurd (h v s refl)
unpriced m (Ended solved s) h e = rests (is_price m) m (outcome_of_implied solved) s e
