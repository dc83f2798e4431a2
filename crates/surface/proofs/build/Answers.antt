-- `surface::build`: the steps of a build, each with what the one before it promises. Assumes nothing.
use Rattle.std.proofs.lemmas.Result.{err_from_is_err_and}
use Rattle.limits.proofs.Refusals.{some}
use Rattle.chart.proofs.Execution as builds
use Rattle.admission.specs.Lent.{columns_in, buffers_in}
use Rattle.surface.proofs.Building.{all_above, cut, axes_refused, accepted, built}
use mathlib.Core.Path.{sym, ◌∙◌}
use native.Mathlib.Omega.{arith}
use Rattle.surface.proofs.build.Goals as goal

pub returns-in_err-check_quotes-clause-builds : goal.returns-in_err-check_quotes-clause-builds
returns-in_err-check_quotes-clause-builds c =
    let p = err_from_is_err_and c.from_residual.result c.from_residual.ensures.1 in
    let why = c.in_err-check_quotes in
    rw (p.1, p.2)
    (builds.quotes_refused (columns_in c.args.quotes.now) c.args.count (buffers_in c.args.buffers.now) _ c.is_small.ensures _ why.ensures (some why.field-0.0))

pub invariant_of-make_axis : goal.invariant_of-make_axis
invariant_of-make_axis c =
    let C = cut c.is_small.ensures c.in_ok-check_quotes.ensures c.first-quotes.ensures in
    record { few = omega (arith, builds.few C, builds.strikes_cut C); above_zero = all_above _ (builds.strikes_above_zero C) }

pub invariant_of-make_axis-2 : goal.invariant_of-make_axis-2
invariant_of-make_axis-2 c =
    let C = cut c.is_small.ensures c.in_ok-check_quotes.ensures c.first-quotes.ensures in
    record { few = omega (arith, builds.few C, builds.expiries_cut C); above_zero = all_above _ (builds.expiries_above_zero C) }

pub returns-in_err-check_axes-clause-builds : goal.returns-in_err-check_axes-clause-builds
returns-in_err-check_axes-clause-builds c =
    let C = cut c.is_small.ensures c.in_ok-check_quotes.ensures c.first-quotes.ensures in
    let p = err_from_is_err_and c.from_residual-in_err-check_axes.result c.from_residual-in_err-check_axes.ensures.1 in
    let why = c.in_err-check_axes in
    rw (p.1, p.2)
    (axes_refused C c.make_axis.ensures c.make_axis-2.ensures c.len.ensures.value c.len-2.ensures.value _ why.ensures (some why.field-0.0))

pub invariant_of-placed : goal.invariant_of-placed
invariant_of-placed c =
    let C = cut c.is_small.ensures c.in_ok-check_quotes.ensures c.first-quotes.ensures in
    let k = c.as_slice.ensures.value ∙ c.make_axis.ensures in
    let e = c.as_slice-2.ensures.value ∙ c.make_axis-2.ensures in
    let A = accepted C k e (rw c.as_slice.ensures.value c.len.ensures.value) (rw c.as_slice-2.ensures.value c.len-2.ensures.value) c.in_ok-check_axes.ensures in
    let n = builds.strikes_cut C in
    record {
      one_length = (builds.expiries_cut C ∙ sym n, builds.volatilities_cut C ∙ sym n);
      few = omega (arith, builds.few C, n);
      ranged = A.ranged;
      narrow = A.narrow;
      low = A.low;
      strikes_made = A.strikes;
      expiries_made = A.expiries;
    }

pub write-requires : goal.write-requires
write-requires c =
    let C = cut c.is_small.ensures c.in_ok-check_quotes.ensures c.first-quotes.ensures in
    let A = accepted C c.make_axis.ensures c.make_axis-2.ensures c.len.ensures.value c.len-2.ensures.value c.in_ok-check_axes.ensures in
    (A.long_strikes, A.long_expiries, A.long_grid, A.long_counts)

pub returns-clause-builds : goal.returns-clause-builds
returns-clause-builds c =
    let C = cut c.is_small.ensures c.in_ok-check_quotes.ensures c.first-quotes.ensures in
    built C c.make_axis.ensures c.make_axis-2.ensures c.len.ensures.value c.len-2.ensures.value c.in_ok-check_axes.ensures
    _ _ c.len-3.ensures.value c.len-4.ensures.value _ c.write.ensures.written
