use Rattle.std.proofs.Common.{rules}
use Rattle.surface.proofs.Thinning.{nothing, some_value, started, dropped, kept, ended}
use Rattle.chart.specs.Steps.{reaches}
use Prim.Native.Nat.{◌≤◌, ◌<◌}
use mathlib.Core.Path.{◌≡◌, refl, sym, ◌∙◌}
use mathlib.Core.Bool.{true, false}
use native.Mathlib.Omega.{arith}
use lib.ListN.{length, get_or, length-set}
use lib.Ieee.{nan}
use Rattle.surface.proofs.axis.thin_out.Goals as goal
use Rattle.surface.proofs.axis.thin_out.Goals.{then-not-reaches, else-not-reaches}

pub returns-in_default : goal.returns-in_default
returns-in_default c = (nothing c.args.sorted.now (search rules), omega arith)

pub loop-i-init : goal.loop-i-init
loop-i-init c = (
  omega arith,
  some_value c.args.sorted.now c.in-Some.first.now (search rules),
  refl,
  started c.args.sorted.now c.in-Some.first.now (search rules),
)

pub loop-i-preserved : goal.loop-i-preserved
loop-i-preserved c =
    let L = c.loop-i in
    let h : L.i < length L.sorted = omega (arith, c.loop-i-test.true, L.invariant.2) in
    let v = get_or L.sorted L.i nan in
    elim c.if-not-reaches.branch [
      | then-not-reaches w ↦
          let far : reaches L.last v ≡ false = sym c.reaches.ensures ∙ (search rules) in
          rw (w.kept-is, w.sorted-is, w.last-is) (
            omega (arith, L.invariant.0),
            simp length-set L.invariant.1,
            simp length-set L.invariant.2,
            kept L.sorted L.i L.last h L.kept L.invariant.0 far ∙ L.invariant.3,
          )
      | else-not-reaches w ↦
          let near : reaches L.last v ≡ true = sym c.reaches.ensures ∙ (search rules) in
          rw (w.kept-is, w.sorted-is, w.last-is)
          (omega (arith, L.invariant.0), L.invariant.1, L.invariant.2, rw (dropped L.sorted L.i L.last h near) L.invariant.3)
    ]

pub returns : goal.returns
returns c =
    let L = c.loop-i in
    let end : length L.sorted ≤ L.i = omega (arith, c.loop-i-test.false, L.invariant.2) in
    (sym (ended L.sorted L.i L.kept L.last end) ∙ L.invariant.3, omega (arith, L.invariant.0, L.auto.i-end, L.invariant.1, L.invariant.2))
