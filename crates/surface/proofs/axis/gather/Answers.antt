use Rattle.std.proofs.Common.{rules}
use Rattle.std.proofs.lemmas.List.Elements.{All-append}
use Prim.Native.Nat.{◌+◌, ◌≤◌}
use mathlib.Core.Path.{◌≡◌, refl, sym, ap, ◌∙◌}
use mathlib.Core.Bool.{true}
use mathlib.Core.List.{[], ◌∷◌, ◌++◌, append-nil}
use native.Mathlib.Omega.{arith}
use lib.ListN.{length, get_or, drop_of_length-le, length-append}
use lib.Ieee.{nan}
use Rattle.chart.specs.Axis.{axis}
use Rattle.surface.proofs.Sorting.{Fine, fine_of}
use Rattle.surface.proofs.Gathering.{is_last, all_one, left_out, taken}
use Rattle.surface.proofs.axis.gather.Goals as goal
use Rattle.surface.proofs.axis.gather.Goals.{then-not-is_some_and, else-not-is_some_and}

pub loop-v-init : goal.loop-v-init
loop-v-init c = rw c.requires.0 (omega arith, (λ k d h. absurd (omega arith)), refl)

pub loop-v-preserved : goal.loop-v-preserved
loop-v-preserved c =
    let L = c.loop-v in
    let xs = c.args.values.now in
    let us = L.gathered.items in
    let v = get_or xs L.v-index nan in
    let fine : Fine v = fine_of xs c.requires.2 c.type_inv.values L.v-index nan c.loop-v-test.true in
    elim c.if-not-is_some_and.branch [
      | then-not-is_some_and w ↦
          let room : length (us ++ v ∷ []) ≤ L.v-index + 1 = omega (arith, length-append us (v ∷ []), L.invariant.0) in
          rw (w.gathered-is, w.push.ensures.items)
          (room, All-append Fine us (v ∷ []) L.invariant.1 (all_one v fine), taken xs us L.v-index c.loop-v-test.true ∙ L.invariant.2)
      | else-not-is_some_and w ↦
          let last = rw c.deref.ensures.0 at c.last.ensures.value in
          let again : c.is_some_and.result ≡ true = search rules in
          let l = is_last us c.last.result v c.is_some_and.result last (λ e. let h = rw e at c.is_some_and.ensures in search rules)
          (λ x e. let h = rw e at c.is_some_and.ensures in search rules) L.invariant.1 fine again in
          rw w.gathered-is (omega (arith, L.invariant.0), L.invariant.1, left_out xs us L.v-index c.loop-v-test.true fine.0 l ∙ L.invariant.2)
    ]

pub returns-clause-above_zero : goal.returns-clause-above_zero
returns-clause-above_zero c = λ k d h. (c.loop-v.invariant.1 k d h).0

pub returns-clause-same_axis : goal.returns-clause-same_axis
returns-clause-same_axis c =
    let L = c.loop-v in
    let end = drop_of_length-le c.args.values.now c.loop-v-test.false in
    sym (ap axis (append-nil L.gathered.items)) ∙ (rw end at L.invariant.2)
