-- Two values of one function are a pair of them. Assumes nothing.
use Rattle.std.proofs.Common.{◌≡◌}
use lib.Ieee.{Float}
use Rattle.normal.specs.declared.Pair.{Pair}
use Rattle.normal.specs.Pairs.{both}

pub are_both : (p : Pair) (f : Float → Float) (x y : Float) → p.first ≡ f x → p.second ≡ f y → p ≡ both f x y
are_both p f x y a b = λ i. record { first = a i; second = b i }
