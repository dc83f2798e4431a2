-- Document 01, 'Twelve desk examples': that of this crate.
use Rattle.std.specs.Prelude.{◌≡◌}
use Rattle.floats.specs.Operators.{decimal}
use Rattle.gauss.specs.Normal.{cdf}

-- "`cdf`(0) is 0.5."
pub record Examples : Type 0 where
  pub cdf_of_zero : cdf (decimal 0 1) ≡ decimal 1 2
