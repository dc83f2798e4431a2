-- How a run of the solver ends, by brent's theorem. Assumes nothing.
use mathlib.Core.Path.{◌≡◌}
use Prim.Native.Nat.{ℕ, ◌≤◌, ◌<◌}
use native.Mathlib.Omega.{arith}
use lib.Dec.{lit<, lit≤}
use lib.Ieee.{Float}
use Rattle.limits.specs.Outcome.{Outcome, done, refused}
use Rattle.brent.specs.declared.Solution.{Solution}
use Rattle.brent.specs.Outcome.{ended}
use Rattle.brent.specs.Feed.{most_evaluations, over}
use Rattle.brent.specs.Run.{run_with}
use Rattle.brent.specs.Claim.{Given, five, eleven, twelve, thirteen}
use Rattle.brent.proofs.Theorem.{claim}
use Rattle.ledger.specs.Book.{end_of}
use Rattle.ledger.specs.Calls.{Ended}

given_counted : {n k : ℕ} → Given n k → (3 < n) × (k ≤ most_evaluations)
given_counted five = (lit< tt, lit≤ tt)
given_counted (eleven p q) = (lit< tt, q)
given_counted twelve = (lit< tt, lit≤ tt)
given_counted thirteen = (lit< tt, lit≤ tt)

pub run_ended : (market : Float) (price : Float → Float) → Ended (end_of (run_with market price).reply)
unfolding end_of
run_ended market price = let m = claim.modelled market price in go m.done_with.0 m.done_with.1
  where
    go : (o : Outcome Solution) → (run_with market price).reply ≡ ended o over → Ended (end_of (run_with market price).reply)
    go (done x) e = rw e (let s = (claim.modelled market price).ran.success e in omega (arith, s.at_most))
    go (refused n x) e = rw e (given_counted ((claim.modelled market price).ran.refusal e).0)
