-- `exponential::ln_above_zero`: the digits and the exponent that `taken_apart` reads are the definition's (Mantissas). Assumes nothing.
use Rattle.std.proofs.Common.{◌≡◌, ℕ, ◌+◌, ◌<◌, true, not, T, pos}
use Rattle.std.proofs.Common.{negsuc, ◌-ℤ◌, refl, ap, ◌∙◌, arith, w64, to_z, of_z}
use lib.Ieee.{Float, nan, inf, fin, binary64, fits, is_nan, of_bits, nan_bits}
use lib.Ieee.Bits.{nan_bits_is}
use lib.Ieee.Positive.{positive}
use Rattle.floats.specs.Digits.{Digits, parts_of}
use Rattle.floats.specs.declared.Parts.{Parts}
use Rattle.floats.proofs.Tests.{holds}
use Rattle.floats.proofs.Digits.{digits_are}
use Rattle.elementary.specs.Ln.{ln, ln_from, mantissa, exponent}
use Rattle.elementary.proofs.Laws.{at_positive}
use Rattle.elementary.proofs.Mantissas.{mant_is, expo_is}
use Rattle.exponential.proofs.Words.{mag_plus, plus_fits, back, plus_back}
use Rattle.exponential.proofs.ln_above_zero.Goals as goal

mant_no_nan : (v : Float) → T (positive v) → T (not (is_nan (mantissa v)))
unfolding mantissa is_nan
mant_no_nan nan p = absurd p
mant_no_nan (inf s) p = absurd p
mant_no_nan (fin s m e) p = tt

-- z and z - 1075, as the machine has them
size_back : (z : ℕ) → z < 2099 → to_z w64 z ≡ pos z
size_back z h = back (pos z) (pos z) refl (omega arith)

less_back : (z : ℕ) → z < 2099 → to_z w64 (of_z w64 (to_z w64 z -ℤ pos 1075)) ≡ pos z -ℤ pos 1075
less_back z h = plus_back (pos z) (pos z) refl (omega arith) (negsuc 1074) (omega arith)

-- the digits and the exponent of a float above 0
module _ (v : Float) (f : fits binary64 v ≡ true) (pos_v : T (positive v)) (p : Parts) (e : p ≡ parts_of v) where
  digits : Digits v p.digits p.size
  digits = digits_are v p f pos_v e

  mant : of_bits binary64 (p.digits + 4602678819172646912) ≡ mantissa v
  mant = mant_is v p.digits p.size (holds _ f) pos_v digits

  no_nan : T (not (nan_bits binary64 (p.digits + 4602678819172646912)))
  no_nan = rw (nan_bits_is, mant) (mant_no_nan v pos_v)

  expo : to_z w64 (of_z w64 (to_z w64 p.size -ℤ pos 1075)) ≡ exponent v
  expo = less_back p.size digits.small ∙ expo_is v p.digits p.size (holds _ f) pos_v digits

  value : (r : Float) → r ≡ ln_from (of_bits binary64 (p.digits + 4602678819172646912)) (to_z w64 (of_z w64 (to_z w64 p.size -ℤ pos 1075))) → r ≡ ln v
  value r h =
      h ∙ ap (λ (x : Float). ln_from x (to_z w64 (of_z w64 (to_z w64 p.size -ℤ pos 1075)))) mant ∙ ap (ln_from (mantissa v)) expo
      ∙ at_positive v pos_v

pub overflow_add-p : goal.overflow_add-p
overflow_add-p c = let d = digits c.args.v c.well_formed.0.1 c.requires _ c.taken_apart-p.ensures in omega (arith, d.high)

pub float_from_bits-p : goal.float_from_bits-p
float_from_bits-p c = no_nan c.args.v c.well_formed.0.1 c.requires _ c.taken_apart-p.ensures

pub overflow_cast-p : goal.overflow_cast-p
overflow_cast-p c = let d = digits c.args.v c.well_formed.0.1 c.requires _ c.taken_apart-p.ensures in omega (arith, d.small)

pub overflow_sub-p : goal.overflow_sub-p
overflow_sub-p c =
    let z = c.taken_apart-p.result.size in
    let s = (digits c.args.v c.well_formed.0.1 c.requires _ c.taken_apart-p.ensures).small in
    rw (size_back z s) (plus_fits (pos z) (negsuc 1074) (omega arith) (omega arith))

pub ln_from-requires : goal.ln_from-requires
ln_from-requires c =
    let z = c.taken_apart-p.result.size in
    let s = (digits c.args.v c.well_formed.0.1 c.requires _ c.taken_apart-p.ensures).small in
    let m = mag_plus (pos z) (negsuc 1074) in
    rw (less_back z s) (omega arith)

pub returns : goal.returns
returns c = value c.args.v c.well_formed.0.1 c.requires _ c.taken_apart-p.ensures _ c.ln_from.ensures
