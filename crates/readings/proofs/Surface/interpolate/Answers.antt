-- `readings::Surface::interpolate`: past the checks the brackets stand inside the axes, and the four corners decide. Assumes nothing.
use Rattle.std.proofs.lemmas.Result.{err_from_is_err_and}
use Rattle.limits.proofs.Refusals.{some}
use Rattle.limits.proofs.Passing.{passes_check, fails_check}
use Rattle.grid.proofs.ReadChecks.{passed}
use Rattle.grid.proofs.ReadCases.{read_refused, read_gap, read_value}
use borrow.Author.Tests.{not-false, not-true}
use mathlib.Core.Path.{refl, sym, ◌∙◌}
use Rattle.readings.proofs.Surface.interpolate.Goals as goal

pub returns-in_err-axes : goal.returns-in_err-axes
returns-in_err-axes c =
    let p = err_from_is_err_and c.from_residual.result c.from_residual.ensures.1 in
    rw (p.1, p.2) (read_refused _ _ _ _ _ _ _ _ c.in_err-axes.ensures.number (some c.in_err-axes.field-0.0))

pub returns-in_err-check : goal.returns-in_err-check
returns-in_err-check c =
    let p = err_from_is_err_and c.from_residual-in_err-check.result c.from_residual-in_err-check.ensures.1 in
    let P = passed _ _ _ _ _ _ _ _ c.in_ok-axes.ensures.number refl in
    let s = (rw c.in_ok-axes.ensures.in_use.0 at c.bracket-s.ensures.value) in
    let e = (rw c.in_ok-axes.ensures.in_use.1 at c.bracket-e.ensures.value) in
    let failed = fails_check _ _ _ _ c.in_err-check.ensures in
    let gap = sym c.has_gap.ensures ∙ not-false _ failed.0 in
    rw (p.1, p.2, failed.1) (read_gap _ _ _ _ _ _ _ P _ _ _ s e c.corner_cells-v.ensures gap)

pub returns : goal.returns
returns c =
    let P = passed _ _ _ _ _ _ _ _ c.in_ok-axes.ensures.number refl in
    let s = (rw c.in_ok-axes.ensures.in_use.0 at c.bracket-s.ensures.value) in
    let e = (rw c.in_ok-axes.ensures.in_use.1 at c.bracket-e.ensures.value) in
    let full = sym c.has_gap.ensures ∙ not-true _ (passes_check _ _ _ _ c.in_ok-check.ensures) in
    read_value _ _ _ _ _ _ _ P _ _ _ s e c.corner_cells-v.ensures _ full c.bilinear.ensures
