use Rattle.chart.proofs.Tables.{cells_step, counts_step, filed_cells, filed_counts}
use Rattle.grid.proofs.Rows.{row_within}
use Rattle.surface.specs.Lent.{axes_in}
use Rattle.surface.specs.Filed.{sums, numbers}
use Rattle.surface.proofs.Filed.{no_cell, sum_at, number_at, sums_part, numbers_part}
use Rattle.surface.specs.declared.cells.Cell.{Cell}
use Rattle.surface.specs.Quoted.{quotes_in}
use Rattle.chart.specs.Build.{table}
use mathlib.Core.Path.{◌≡◌, refl, ap, ◌∙◌}
use lib.ListN.{length, replicate, get_or-replicate}
use lib.Ieee.{of_bits, round}
use native.Mathlib.Omega.{arith}
use Rattle.surface.proofs.cells.Placed.write_cells.Goals as goal

-- no cell is counted yet
pub tally-requires : goal.tally-requires
unfolding of_bits round
tally-requires c =
    let new = c.default-empty.result in
    let all = replicate 2048 new in
    record {
      cells = (refl, refl);
      sum = λ p h. sum_at all p ∙ ap (λ (c : Cell). c.sum) (get_or-replicate 2048 p new no_cell h) ∙ c.default-empty.ensures.0;
      number = λ p h. number_at all p ∙ ap (λ (c : Cell). c.number) (get_or-replicate 2048 p new no_cell h) ∙ c.default-empty.ensures.1;
    }

pub loop-i-preserved : goal.loop-i-preserved
loop-i-preserved c =
    let s = c.args.self.now in
    let L = c.loop-i in
    let cs = c.tally.new.cells in
    let w = length s.strikes.now in
    let row = row_within L.i (length s.expiries.now) w c.loop-i-test.true s.low s.narrow in
    record {
      cells = cells_step (sums cs) (numbers cs) L.i w _ row.width _ _ _ (omega (arith, row.within, c.requires.0)) L.invariant.cells
          (rw (sums_part, numbers_part) at c.write_row.ensures);
      counted = counts_step (sums cs) (numbers cs) L.i w _ row.width _ _ _ (omega (arith, row.within, c.requires.1)) L.invariant.counted
          (rw numbers_part at c.count_row.ensures);
    }

pub loop-i-init : goal.loop-i-init
unfolding table
loop-i-init c = record { cells = refl; counted = refl }

pub returns : goal.returns
returns c =
    let s = c.args.self.now in
    let L = c.loop-i in
    let x = axes_in s in
    let qs = quotes_in s.quotes in
    let t = c.tally in
    let all : L.i ≡ length s.expiries.now = omega (arith, c.loop-i-test.false, c.loop-i.auto.i-end) in
    record {
      cells = rw all at L.invariant.cells ∙ filed_cells x qs _ _ t.ensures s.narrow s.low c.args.grid.now;
      counted = rw all at L.invariant.counted ∙ filed_counts x qs _ _ t.ensures s.narrow s.low c.args.counts.now;
    }
