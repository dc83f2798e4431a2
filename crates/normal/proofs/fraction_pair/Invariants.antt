-- `normal::fraction_pair`: with j rounds to come c and d are `fraction` after the others. Assumes nothing.
use Rattle.std.proofs.Common.{◌≡◌, ◌-◌}
use Rattle.gauss.specs.Erfc.{fraction, levels}
use Rattle.normal.proofs.fraction_pair.Given as goal

abbrev pub invariant-loop-j : goal.invariant-loop-j
invariant-loop-j l = (l.c ≡ fraction l.v.first (levels - l.j)) × (l.d ≡ fraction l.v.second (levels - l.j))
