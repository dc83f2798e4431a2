-- Document 01: "Not-a-number gives not-a-number."
use Rattle.std.specs.Prelude.{◌≡◌}
use Rattle.std.specs.Float.{nan}
use Rattle.elementary.specs.Exp.{exp}
use Rattle.elementary.specs.Ln.{ln}

pub record NotANumber : Type 0 where
  pub of_exp : exp nan ≡ nan
  pub of_ln : ln nan ≡ nan
