-- Document 01: "Not-a-number gives not-a-number."
use Rattle.std.specs.Prelude.{◌≡◌}
use Rattle.std.specs.Float.{nan}
use Rattle.gauss.specs.Erfc.{erfc}
use Rattle.gauss.specs.Normal.{pdf, cdf}

pub record NotANumber : Type 0 where
  pub of_erfc : erfc nan ≡ nan
  pub of_pdf : pdf nan ≡ nan
  pub of_cdf : cdf nan ≡ nan
