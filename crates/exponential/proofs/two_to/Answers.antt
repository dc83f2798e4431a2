-- `exponential::two_to`: the pattern with the field k + 1023 and no digits is 2^k (Powers). Assumes nothing.
use Rattle.std.proofs.Common.{◌≡◌, suc, T, ℤ, pos, ◌+ℤ◌, refl, ◌∙◌, arith, w64, to_z, of_z}
use Rattle.elementary.specs.Steps.{in_exponent}
use Rattle.elementary.proofs.Powers.{bias, biased, two_is, two_no_nan}
use Rattle.exponential.proofs.Words.{few, plus_back}
use Rattle.exponential.proofs.two_to.Goals as goal

-- the sum, as the machine has it
sum_is : (k : ℤ) → T (in_exponent k) → to_z w64 (of_z w64 (to_z w64 (of_z w64 k) +ℤ pos 1023)) ≡ pos (suc (bias k))
sum_is k h = let f = few 1022 k h in plus_back k k refl (omega arith) (pos 1023) (omega arith) ∙ biased k h

pub float_from_bits-result : goal.float_from_bits-result
float_from_bits-result c = rw (sum_is c.args.k c.requires) (two_no_nan c.args.k c.requires)

pub returns : goal.returns
returns c = rw (sum_is c.args.k c.requires) (two_is c.args.k c.requires)
