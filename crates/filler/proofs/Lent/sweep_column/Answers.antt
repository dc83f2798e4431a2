use Rattle.gaps.proofs.Columns.{put_step, put_end}
use mathlib.Core.Path.{sym, ◌∙◌}
use Rattle.filler.proofs.Lent.sweep_column.Goals as goal

pub loop-i-preserved : goal.loop-i-preserved
loop-i-preserved c = (put_step _ _ _ _ c.loop-i-test.true ∙ c.loop-i.invariant.0, c.loop-i.invariant.1, c.loop-i.invariant.2, c.loop-i.invariant.3)

pub returns : goal.returns
returns c =
    let I = c.loop-i.invariant in
    (rw (← c.gather.ensures, ← c.sweep.ensures) (sym (put_end c.loop-i.self.grid.now _ _ _ c.loop-i-test.false) ∙ I.0), I.1, I.2, I.3)
