-- `readings::Axis::nearest`: it leads those passed, by the one test of a round. Assumes nothing.
use Rattle.grid.proofs.Nearest.{Leads}
use Rattle.readings.proofs.Axis.nearest.Given as goal

abbrev pub invariant-loop-strike : goal.invariant-loop-strike
invariant-loop-strike l = Leads l.spot l.self.values.now l.strike-index l.nearest
