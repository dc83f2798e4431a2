use Rattle.grid.proofs.Rows.{write_start, write_step, write_end}
use Rattle.grid.proofs.Values.{no_values}
use Rattle.chart.specs.Cells.{source}
use Rattle.chart.proofs.Neighbour.{held_step, held_next, held_first, first_source}
use Rattle.std.specs.Option.{unwrap_or}
use Rattle.std.specs.Prelude.{Option}
use Rattle.surface.specs.Filed.{sums, numbers}
use Rattle.surface.proofs.Filed.{mean_of, mean_or_of, first_counted}
use borrow.Author.Tests.{eqb-true}
use Prim.Native.Nat.{ℕ}
use mathlib.Core.Path.{◌≡◌, sym, ap, ◌∙◌}
use lib.ListN.{length, get_or, length-map}
use lib.Ieee.{Float, nan}
use Rattle.surface.proofs.cells.write_row.Goals as goal

pub returns-then-is_empty : goal.returns-then-is_empty
returns-then-is_empty c = no_values _ c.args.row.now (eqb-true (length c.args.row.now) 0 (sym c.if-is_empty.ensures))

pub loop-j-init : goal.loop-j-init
loop-j-init c =
    let A = c.args in
    let sum : ℕ → Float = λ k. get_or (sums A.cells.now) k nan in
    let number : ℕ → ℕ = λ k. get_or (numbers A.cells.now) k 0 in
    let found =
    c.unwrap_or-first.ensures ∙ ap (λ (o : Option ℕ). unwrap_or o 0) (c.first_counted.ensures ∙ first_counted A.cells.now)
    ∙ first_source (numbers A.cells.now) in
    let first : c.unwrap_or-first.result ≡ source number (length A.row.now) 0 = (rw (length-map, c.requires) at found) in
    (held_first sum number _ _ _ first (c.mean-last.ensures ∙ mean_of A.cells.now _), write_start _ _ A.row.now)

pub loop-j-preserved : goal.loop-j-preserved
loop-j-preserved c =
    let A = c.args in
    let sum : ℕ → Float = λ k. get_or (sums A.cells.now) k nan in
    let number : ℕ → ℕ = λ k. get_or (numbers A.cells.now) k 0 in
    let I = c.loop-j.invariant in
    let here = held_step sum number _ _ _ _ c.loop-j-test.true I.0 (c.mean_or-last.ensures ∙ mean_or_of A.cells.now _ _) in
    (held_next _ _ _ _ _ here, write_step _ _ _ _ _ c.loop-j-test.true c.loop-j.auto.row here I.1)

pub returns : goal.returns
returns c = write_end _ _ _ _ c.loop-j-test.false c.loop-j.auto.row c.loop-j.invariant.1
