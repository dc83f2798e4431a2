-- Document 01, 'Twelve desk examples': that of this crate.
use Rattle.std.specs.Prelude.{◌≡◌}
use Rattle.floats.specs.Operators.{decimal}
use Rattle.root.specs.Root.{sqrt}

-- "Root of 0.25 is 0.5."
pub record Examples : Type 0 where
  pub root_of_a_quarter : sqrt (decimal 1 4) ≡ decimal 1 2
