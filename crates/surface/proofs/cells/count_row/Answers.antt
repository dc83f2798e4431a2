use Rattle.grid.proofs.Rows.{write_step, write_end}
use mathlib.Core.Path.{sym, ◌∙◌}
use Rattle.surface.proofs.Filed.{number_at}
use Rattle.surface.proofs.cells.count_row.Goals as goal

pub loop-j-preserved : goal.loop-j-preserved
loop-j-preserved c = write_step _ _ _ _ _ c.loop-j-test.true c.loop-j.auto.row (c.from.ensures ∙ sym (number_at c.args.cells.now _)) c.loop-j.invariant

pub returns : goal.returns
returns c = write_end _ _ _ _ c.loop-j-test.false c.loop-j.auto.row c.loop-j.invariant
