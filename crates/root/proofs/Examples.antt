-- The desk example of this crate, and what the root makes of not-a-number: by computation. Assumes nothing.
use lib.Ieee.{round, size, odd}
use Rattle.floats.proofs.Same.{same, same_is}
use Rattle.root.specs.Root.{sqrt, whole_root}
use Rattle.root.specs.NotANumber.{NotANumber}
use Rattle.root.specs.Examples.{Examples}

pub examples : Examples
unfolding same sqrt whole_root round size odd
examples = record { root_of_a_quarter = same_is _ _ tt }

pub not_a_number : NotANumber
unfolding same sqrt
not_a_number = record { of_sqrt = same_is _ _ tt }
