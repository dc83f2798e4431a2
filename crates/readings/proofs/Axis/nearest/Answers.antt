use Rattle.grid.proofs.Nearest.{leads_keep, leads_move, leads_end}
use Rattle.readings.proofs.Axis.nearest.Goals as goal
use Rattle.readings.proofs.Axis.nearest.Goals.{then-away_from, else-away_from}

pub loop-strike-preserved : goal.loop-strike-preserved
loop-strike-preserved c =
    let A = c.args in
    let I = c.loop-strike.invariant in
    let here = c.away_from.ensures in
    let best = c.away_from-in-loop-strike.ensures in
    elim c.if-away_from.branch [
      | then-away_from w ↦ rw w.nearest-is
          (leads_move A.spot A.self.now.values.now _ _ A.self.now.rises c.loop-strike-test.true (rw (← here, ← best) w.if-away_from.true) I)
      | else-away_from w ↦ rw w.nearest-is (leads_keep A.spot A.self.now.values.now _ _ (rw (← here, ← best) w.if-away_from.false) I)
    ]

pub returns : goal.returns
returns c = leads_end _ _ _ _ c.args.self.now.rises c.loop-strike-test.false c.loop-strike.auto.strike-index-end c.loop-strike.invariant
