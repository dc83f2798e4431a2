-- Document 01: "Not-a-number gives not-a-number."
use Rattle.std.specs.Prelude.{◌≡◌}
use Rattle.std.specs.Float.{nan}
use Rattle.root.specs.Root.{sqrt}

pub record NotANumber : Type 0 where
  pub of_sqrt : sqrt nan ≡ nan
