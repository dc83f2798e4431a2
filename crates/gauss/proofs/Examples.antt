-- The desk example of this crate, and what the three functions make of not-a-number: by computation. Assumes nothing.
use lib.Ieee.{add, sub, mul, div, neg, lt, le, round, of_int, is_nan}
use Rattle.floats.proofs.Same.{same, same_is}
use Rattle.elementary.specs.Tables.{horner, E}
use Rattle.elementary.specs.Exp.{exp}
use Rattle.gauss.specs.Erfc.{erfc}
use Rattle.gauss.specs.NotANumber.{NotANumber}
use Rattle.gauss.specs.Examples.{Examples}

pub examples : Examples
unfolding same exp erfc horner E add sub mul div neg lt le round of_int is_nan
examples = record { cdf_of_zero = same_is _ _ tt }

pub not_a_number : NotANumber
unfolding same exp erfc add sub mul div neg lt le is_nan
not_a_number = record { of_erfc = same_is _ _ tt; of_pdf = same_is _ _ tt; of_cdf = same_is _ _ tt }
