use Rattle.chart.proofs.Filing.{file_start, file_few, file_put, file_end}
use Rattle.chart.proofs.Kept.{quotes_at, quotes_end, length_quotes}
use Rattle.chart.specs.Quotes.{Columns}
use Rattle.chart.specs.Axis.{place}
use Rattle.admission.specs.Lent.{columns_in}
use Rattle.surface.proofs.Placing.{housed}
use Rattle.surface.proofs.Filed.{no_cell, number_at, sum_filed, number_filed}
use Rattle.surface.specs.Filed.{sums, numbers}
use Rattle.floats.specs.Operators.{◌⊕◌}
use Prim.Native.Nat.{◌+◌, ◌<◌}
use mathlib.Core.Path.{refl}
use lib.ListN.{length, get_or}
use lib.Ieee.{nan}
use native.Mathlib.Omega.{arith}
use Rattle.surface.proofs.cells.Placed.tally.Goals as goal

pub loop-i-init : goal.loop-i-init
loop-i-init c = file_start _ _ (sums c.args.cells.now) (numbers c.args.cells.now) c.requires

pub overflow_add-cells : goal.overflow_add-cells
overflow_add-cells c =
    let s = c.args.self.now in
    let lent : Columns = columns_in s.quotes in
    let h = housed s _ c.loop-i-test.true in
    let low : place s.expiries.now (get_or lent.expiries c.loop-i.i nan) < 32 = omega (arith, h.0.inside, s.low) in
    let narrow : place s.strikes.now (get_or lent.strikes c.loop-i.i nan) < 64 = omega (arith, h.1.inside, s.narrow) in
    let few = file_few _ _ _ _ _ _ _ _ c.home-at.ensures.0 low narrow c.loop-i.invariant in
    omega (arith, few, number_at c.loop-i.cells c.home-at.result, length_quotes lent (length lent.strikes), s.few)

pub loop-i-preserved : goal.loop-i-preserved
loop-i-preserved c =
    let s = c.args.self.now in
    let lent : Columns = columns_in s.quotes in
    let h = housed s _ c.loop-i-test.true in
    let low : place s.expiries.now (get_or lent.expiries c.loop-i.i nan) < 32 = omega (arith, h.0.inside, s.low) in
    let narrow : place s.strikes.now (get_or lent.strikes c.loop-i.i nan) < 64 = omega (arith, h.1.inside, s.narrow) in
    let q = quotes_at lent (length lent.strikes) _ c.loop-i-test.true in
    let v = get_or lent.volatilities c.loop-i.i nan in
    let was = get_or c.loop-i.cells c.home-at.result no_cell in
    rw (sum_filed c.loop-i.cells c.home-at.result v (was.number + 1), number_filed c.loop-i.cells c.home-at.result (was.sum ⊕ v)) at
    (file_put _ _ _ _ _ _ q refl refl low narrow _ c.home-at.ensures.0 _ _ c.loop-i.invariant)

pub returns : goal.returns
returns c =
    let lent : Columns = columns_in c.args.self.now.quotes in
    file_end _ _ _ _ _ (quotes_end lent (length lent.strikes) _ c.loop-i-test.false) c.loop-i.invariant
