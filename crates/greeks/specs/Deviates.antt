-- The two points at which the normal distribution is taken, side by side. No meaning of document 01's rests on this.
use Rattle.blackscholes.specs.Model.{d1, d2}
use Rattle.blackscholes.specs.declared.OptionParams.{OptionParams}
use Rattle.greeks.specs.declared.Deviates.{Deviates}

abbrev pub deviates : OptionParams → Deviates
deviates p = record { d1 = d1 p; d2 = d2 p }
