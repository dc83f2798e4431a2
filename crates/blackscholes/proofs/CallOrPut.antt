-- A call or a put. Assumes nothing.
use mathlib.Core.Path.{◌≡◌, refl}
use Rattle.blackscholes.specs.declared.OptionType.{OptionType}
use Rattle.blackscholes.specs.declared.OptionType.TheVariants.{Call, Put}

pub by_kind : {X : Type 0} (kind : OptionType) → (kind ≡ Call → X) → (kind ≡ Put → X) → X
by_kind Call call put = call refl
by_kind Put call put = put refl
