-- What holds of the definitions, whatever the code does: document 01's three sentences of erfc, and the Rust's two lines, with their numbers.
use Rattle.std.specs.Prelude.{◌≡◌, true, false, ◌^◌, Float}
use Rattle.std.specs.Float.Ieee.{neg}
use Rattle.floats.specs.Operators.{decimal, ◌⊖◌, ◌⊗◌, ◌⊘◌, ◌≺◌}
use Rattle.elementary.specs.Exp.{exp}
use Rattle.gauss.specs.Erfc.{erfc, series, fraction}
use Rattle.gauss.specs.Normal.{pdf, cdf}

pub record Laws : Type 0 where
  -- "below 0, 2 - erfc(-v)"
  pub erfc_below : (v : Float) → v ≺ decimal 0 1 ≡ true → erfc v ≡ decimal 2 1 ⊖ erfc (neg v)
  -- "Under 2: .. for n = 0 to 39 .."
  pub erfc_under_2 : (v : Float) → v ≺ decimal 0 1 ≡ false → v ≺ decimal 2 1 ≡ true
      → erfc v ≡ decimal 1 1 ⊖ decimal 11283791670955126 (10 ^ 16) ⊗ exp (neg (v ⊗ v)) ⊗ (series v 40).sum
  -- "From 2: .. for j from 60 down to 1 .."
  pub erfc_from_2 : (v : Float) → v ≺ decimal 0 1 ≡ false → v ≺ decimal 2 1 ≡ false
      → erfc v ≡ exp (neg (v ⊗ v)) ⊗ decimal 5641895835477563 (10 ^ 16) ⊘ fraction v 60
  -- FRAC_1_SQRT_2PI and SQRT_2 as src/normal.rs has them
  pub pdf_is : (x : Float) → pdf x ≡ decimal 3989422804014327 (10 ^ 16) ⊗ exp (neg (decimal 1 2) ⊗ x ⊗ x)
  pub cdf_is : (x : Float) → cdf x ≡ decimal 1 2 ⊗ erfc (neg x ⊘ decimal 14142135623730951 (10 ^ 16))
