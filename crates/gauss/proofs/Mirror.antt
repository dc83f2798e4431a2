-- Below 0, erfc is 2 - erfc of the mirror image: the mirror image is not below 0. Assumes nothing.
use mathlib.Core.Path.{◌≡◌, refl, sym}
use mathlib.Core.Bool.{true, false, true≢false}
use Prim.Native.Nat.{◌*◌}
use native.Mathlib.Omega.{arith}
use native.Mathlib.Nat.{zero-mul}
use borrow.Author.Tests.{le-ltb}
use lib.Ieee.{Float, nan, inf, fin, up, down, neg, lt, round}
use Rattle.floats.specs.Operators.{decimal, ◌⊖◌, ◌≺◌}
use Rattle.floats.proofs.Tests.{split}
use Rattle.floats.proofs.Signs.{O, below_zero}
use Rattle.gauss.specs.Erfc.{erfc, erfc_from_zero}
use Rattle.gauss.specs.Steps.{upright, mirrored}

not_below : (v : Float) → v ≺ O ≡ true → neg v ≺ O ≡ false
unfolding lt neg round
not_below nan h = refl
not_below (inf false) h = absurd (true≢false (sym h))
not_below (inf true) h = refl
not_below (fin true m e) h = le-ltb (m * up e * 1) (0 * down e) (let z = zero-mul (down e) in omega arith)
not_below (fin false m e) h = absurd (below_zero (m * up e * 1) (down e) h)

pub erfc_below : (v : Float) → v ≺ decimal 0 1 ≡ true → erfc v ≡ decimal 2 1 ⊖ erfc (neg v)
unfolding erfc
erfc_below v h = rw (h, not_below v h)

-- erfc of any v from that of a value not below 0
pub of_upright : (v : Float) → mirrored v (erfc_from_zero (upright v)) ≡ erfc v
unfolding erfc
of_upright v = split (v ≺ decimal 0 1) (λ t. rw t) (λ t. rw t)
