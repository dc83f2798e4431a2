-- `host::kite_fill_gaps`: the number is that of the answer. Assumes nothing.
use mathlib.Core.Path.{◌∙◌}
use Rattle.host.proofs.Told.{told_answer}
use Rattle.host.proofs.kite_fill_gaps.Goals as goal

pub returns : goal.returns
returns c = let f = c.fill_gaps.ensures in rw c.number_of.ensures (record { answers = told_answer tt c.fill_gaps.result ∙ f.answers; grid = f.grid })
