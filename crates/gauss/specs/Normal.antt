-- src/normal.rs: "`pdf` and `cdf` then follow the Rust."
use Rattle.std.specs.Prelude.{◌^◌, Float}
use Rattle.std.specs.Float.Ieee.{neg}
use Rattle.floats.specs.Operators.{decimal, ◌⊗◌, ◌⊘◌}
use Rattle.elementary.specs.Exp.{exp}
use Rattle.gauss.specs.Erfc.{erfc}

-- FRAC_1_SQRT_2PI * (-0.5 * x * x).exp()
abbrev pub pdf : Float → Float
pdf x = decimal 3989422804014327 (10 ^ 16) ⊗ exp (neg (decimal 1 2) ⊗ x ⊗ x)

-- 0.5 * erfc(-x / SQRT_2)
abbrev pub cdf : Float → Float
cdf x = decimal 1 2 ⊗ erfc (neg x ⊘ decimal 14142135623730951 (10 ^ 16))
