-- What the tests for exceptional floats tell of a float that passed them: of not-a-number and infinity which float it is, of those below 0.0 and of zeros
-- what is to be shown of them, for any statement P about a float; and of one that passed none, that it is above 0.0. Assumes nothing.
use mathlib.Core.Path.{◌≡◌, sym, subst}
use mathlib.Core.Bool.{Bool, true}
use Prim.Native.Nat.{ℕ, zero, suc}
use lib.IntN.{ℤ}
use lib.Ieee.{Float, nan, inf, fin, eq}
use Rattle.floats.specs.Operators.{◌≺◌}
use Rattle.floats.proofs.Signs.{O, Negative, Zero, nan_of, is_negative, is_zero, is_infinity, is_positive}

pub ruleset exceptional = (nan_of, is_infinity, is_positive)

module _ (P : Float → Type 0) where
  pub at_negative : P (inf true) → ((m : ℕ) (e : ℤ) → P (fin true (suc m) e)) → (v : Float) → v ≺ O ≡ true → P v
  at_negative p q v h = go v (is_negative v h)
    where
      go : (v : Float) → Negative v → P v
      go nan n = absurd n
      go (inf s) n = subst (λ (s : Bool). P (inf s)) (sym n) p
      go (fin s zero e) n = absurd n
      go (fin s (suc m) e) n = subst (λ (s : Bool). P (fin s (suc m) e)) (sym n) (q m e)

  pub at_zero : ((s : Bool) (e : ℤ) → P (fin s zero e)) → (v : Float) → eq v O ≡ true → P v
  at_zero p v h = go v (is_zero v h)
    where
      go : (v : Float) → Zero v → P v
      go nan n = absurd n
      go (inf s) n = absurd n
      go (fin s zero e) n = p s e
      go (fin s (suc m) e) n = absurd n
