use Rattle.grid.proofs.Rows.{write_step, write_end}
use mathlib.Core.Path.{refl}
use Rattle.filler.proofs.Lent.gather.Goals as goal

pub loop-i-preserved : goal.loop-i-preserved
loop-i-preserved c = write_step _ _ _ _ _ c.loop-i-test.true c.loop-i.auto.cells refl c.loop-i.invariant

pub returns : goal.returns
returns c = rw (← c.requires.1) (write_end _ _ _ _ c.loop-i-test.false c.loop-i.auto.cells c.loop-i.invariant)
