-- What the answer of `check` says of what was looked at. Assumes nothing.
use Rattle.std.specs.Prelude.{Ok, Err, if◌then◌else◌}
use mathlib.Core.Path.{◌≡◌, refl}
use mathlib.Core.Bool.{Bool, true, false}
use Rattle.limits.specs.declared.Refusal.{Refusal}

module _ {T : Type 0} (b : Bool) (values : T) where
  pub passes_check : (x : T) (refusal : Refusal) → Ok x ≡ (if b then Ok values else Err refusal) → b ≡ true
  passes_check x refusal e = go b e
    where
      go : (b : Bool) → Ok x ≡ (if b then Ok values else Err refusal) → b ≡ true
      go true e = refl
      go false e = cc

  pub fails_check : (why refusal : Refusal) → Err why ≡ (if b then Ok values else Err refusal) → (b ≡ false) × (why ≡ refusal)
  fails_check why refusal e = go b e
    where
      go : (b : Bool) → Err why ≡ (if b then Ok values else Err refusal) → (b ≡ false) × (why ≡ refusal)
      go true e = cc
      go false e = (refl, cc)
