-- `host::kite_bsm_greeks`: the number and the seven values are those of the answer. Assumes nothing.
use mathlib.Core.Path.{ap, ◌∙◌}
use Rattle.std.proofs.Common.{rules}
use Rattle.blackscholes.specs.Checks.{no_greeks}
use Rattle.limits.proofs.Float.{of_bits, round}
use Rattle.host.specs.Answers.{over, greeks_entries}
use Rattle.host.proofs.Told.{told_over}
use Rattle.host.proofs.kite_bsm_greeks.Goals as goal

pub returns : goal.returns
unfolding of_bits round
returns c =
    rw (c.number_of.ensures, c.values_of-g.ensures)
    (told_over no_greeks greeks_entries _ c.default.result (search rules) ∙ ap (over greeks_entries) (rw c.option_of.ensures at c.bsm_greeks-answer.ensures))
