-- What a value in range is. Assumes nothing.
use mathlib.Core.Path.{◌≡◌, refl}
use mathlib.Core.Bool.{true, false, ◌&&◌}
use lib.Dec.{T}
use lib.Ieee.{Float, nan, inf, fin, round, lt, le, eq}
use lib.Ieee.Fits.{and_l, and_r}
use lib.Ieee.Bits.{is_true}
use lib.Ieee.Positive.{positive, between, positive-finite}
use Rattle.floats.specs.Operators.{decimal, ◌≼◌}
use Rattle.floats.specs.Values.{finite}
use Rattle.floats.proofs.Tests.{holds}
use Rattle.limits.specs.Ranges.{within, is_spot, is_expiry, is_volatility, lowest_volatility, highest_volatility}

-- no range holds a not-a-number
pub nan_outside : (lo hi : Float) → within lo hi nan ≡ false
unfolding within le lt eq
nan_outside nan hi = refl
nan_outside (inf s) hi = refl
nan_outside (fin s m e) hi = refl

pub at_least : (lo hi x : Float) → within lo hi x ≡ true → T (lo ≼ x)
unfolding within
at_least lo hi x h = and_l (lo ≼ x) (x ≼ hi) (holds (lo ≼ x && x ≼ hi) h)

pub at_most : (lo hi x : Float) → within lo hi x ≡ true → T (x ≼ hi)
unfolding within
at_most lo hi x h = and_r (lo ≼ x) (x ≼ hi) (holds (lo ≼ x && x ≼ hi) h)

-- between two values that are finite and above 0, a value is
pub positive_within : (lo hi x : Float) → T (positive lo) → T (positive hi) → within lo hi x ≡ true → T (positive x)
positive_within lo hi x p q h = between lo x hi p q (at_least lo hi x h) (at_most lo hi x h)

pub spot_positive : (s : Float) → is_spot s ≡ true → T (positive s)
spot_positive s h = positive_within (decimal 1 1000000) (decimal 1000000000 1) s (unfold round in tt) (unfold round in tt) h

pub expiry_positive : (t : Float) → is_expiry t ≡ true → T (positive t)
expiry_positive t h = positive_within (decimal 1 1000000) (decimal 100 1) t (unfold round in tt) (unfold round in tt) h

pub volatility_positive : (v : Float) → is_volatility v ≡ true → T (positive v)
volatility_positive v h = positive_within lowest_volatility highest_volatility v (unfold round in tt) (unfold round in tt) h

pub volatility_finite : (v : Float) → is_volatility v ≡ true → finite v ≡ true
volatility_finite v h = is_true (finite v) (positive-finite v (volatility_positive v h))
