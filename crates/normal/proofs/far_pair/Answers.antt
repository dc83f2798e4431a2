-- `normal::far_pair`: two numerators of 0 are the quotients themselves (`vanishes`). Assumes nothing.
use Rattle.std.proofs.Common.{◌≡◌, true, refl, ◌∙◌, subst, rules}
use lib.Ieee.{Float, eq}
use Rattle.floats.proofs.Tests.{holds}
use Rattle.floats.proofs.Signs.{O}
use Rattle.gauss.specs.Erfc.{erfc_from_zero}
use Rattle.gauss.specs.Steps.{far_numerator}
use Rattle.gauss.proofs.Vanish.{vanishes}
use Rattle.normal.proofs.Definitions.{opened}
use Rattle.normal.proofs.Pairs.{are_both}
use Rattle.normal.proofs.far_pair.Goals as goal

pub returns-then-v-2 : goal.returns-then-v-2
unfolding opened
returns-then-v-2 c =
    let v = c.args.v in
    let e = c.map-e.result in
    let p : e.first ≡ far_numerator v.first = search rules in
    let q : e.second ≡ far_numerator v.second = search rules in
    let held = c.well_formed.0.1.1 in
    let g = vanishes v.first _ (holds _ held.0.1) c.requires.0 c.if-v.true refl (subst (λ (x : Float). eq x O ≡ true) p c.if-e.true) in
    let h = vanishes v.second _ (holds _ held.1.0.1) c.requires.1 c.if-v-2.true refl (subst (λ (x : Float). eq x O ≡ true) q c.if-e-2.true) in
    are_both e erfc_from_zero v.first v.second (p ∙ g) (q ∙ h)
