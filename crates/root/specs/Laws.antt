-- What holds of the definition of the root, whatever the code does.
use Rattle.std.specs.Prelude.{◌≡◌, T, Float}
use Rattle.std.specs.Float.Ieee.{fits}
use Rattle.std.specs.Float.{binary64}
use Rattle.std.specs.Float.Ieee.Positive.{positive}
use Rattle.root.specs.Root.{NearestRoot, sqrt}

-- The root of an f64 above 0 is the nearest f64, and no other f64 is.
pub record Laws : Type 0 where
  pub nearest_root : (v : Float) → T (fits binary64 v) → T (positive v) → NearestRoot v (sqrt v)
  pub root_unique : (v r s : Float) → NearestRoot v r → NearestRoot v s → r ≡ s
