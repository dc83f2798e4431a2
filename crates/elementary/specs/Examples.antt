-- Document 01, 'Twelve desk examples': those of this crate, with S-8's -745.5 for 01's -708.5.
use Rattle.std.specs.Prelude.{◌≡◌}
use Rattle.std.specs.Float.Ieee.{neg}
use Rattle.floats.specs.Operators.{decimal}
use Rattle.elementary.specs.Exp.{exp}
use Rattle.elementary.specs.Ln.{ln}

-- "exp(0) is 1; exp(-745.5) is 0. ln 1 is 0."
pub record Examples : Type 0 where
  pub exp_of_zero : exp (decimal 0 1) ≡ decimal 1 1
  pub exp_far_below : exp (neg (decimal 7455 10)) ≡ decimal 0 1
  pub ln_of_one : ln (decimal 1 1) ≡ decimal 0 1
