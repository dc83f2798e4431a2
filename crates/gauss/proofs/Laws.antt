-- The laws of erfc. Assumes nothing.
use Rattle.std.specs.Prelude.{if◌then◌else◌}
use mathlib.Core.Path.{◌≡◌, refl}
use mathlib.Core.Bool.{Bool, true, false}
use Prim.Native.Nat.{◌^◌}
use lib.Ieee.{Float, neg}
use Rattle.floats.specs.Operators.{decimal, ◌⊖◌, ◌⊗◌, ◌⊘◌, ◌≺◌}
use Rattle.elementary.specs.Exp.{exp}
use Rattle.gauss.specs.Erfc.{erfc, series, fraction}
use Rattle.gauss.specs.Laws.{Laws}
use Rattle.gauss.proofs.Mirror as mirror

-- the two tests of erfc, in their order
first_of : (a b : Bool) (w x y : Float) → a ≡ false → b ≡ true → (if a then w else if b then x else y) ≡ x
first_of a b w x y p q = rw (p, q)

last_of : (a b : Bool) (w x y : Float) → a ≡ false → b ≡ false → (if a then w else if b then x else y) ≡ y
last_of a b w x y p q = rw (p, q)

abbrev near : Float → Float
near v = decimal 1 1 ⊖ decimal 11283791670955126 (10 ^ 16) ⊗ exp (neg (v ⊗ v)) ⊗ (series v 40).sum

abbrev far : Float → Float
far v = exp (neg (v ⊗ v)) ⊗ decimal 5641895835477563 (10 ^ 16) ⊘ fraction v 60

erfc_under_2 : (v : Float) → v ≺ decimal 0 1 ≡ false → v ≺ decimal 2 1 ≡ true
    → erfc v ≡ near v
unfolding erfc
erfc_under_2 v h l = rw (h, l)

erfc_from_2 : (v : Float) → v ≺ decimal 0 1 ≡ false → v ≺ decimal 2 1 ≡ false
    → erfc v ≡ far v
unfolding erfc
erfc_from_2 v h l = rw (h, l)

pub laws : Laws
laws =
    record { erfc_below = mirror.erfc_below; erfc_under_2 = erfc_under_2; erfc_from_2 = erfc_from_2; pdf_is = λ x. refl; cdf_is = λ x. refl }
