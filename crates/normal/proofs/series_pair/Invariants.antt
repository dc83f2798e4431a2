-- `normal::series_pair`: both series as `series` has them, with one count of rounds; the loop ends early where both are settled. Assumes nothing.
use Rattle.std.proofs.Common.{◌≡◌}
use Rattle.normal.specs.Pairs.{summed}
use Rattle.normal.proofs.series_pair.Given as goal

abbrev pub invariant-loop-k : goal.invariant-loop-k
invariant-loop-k l = (l.a ≡ summed l.fn.v.first l.k) × (l.b ≡ summed l.fn.v.second l.k)
