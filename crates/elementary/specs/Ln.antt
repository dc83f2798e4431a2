-- Document 01, 'ln(v)': "0 gives minus infinity, a negative not-a-number, infinity itself. Else v = m × 2^e, m in [1, 2) (subnormals also);
-- if m > 1.4142135623730951, halve m and add 1 to e. z = (m-1)/(m+1), w = z×z; q starts at L[10], for i from 9 down to 0 becomes q×w + L[i];
-- answer e×H + ((2×z)×q + e×J)."
use Rattle.std.specs.Prelude.{◌≡◌, true, false, ℕ, zero, suc, ◌-◌, ◌*◌, ◌^◌, ◌≤◌, ◌<◌, T, ℤ, pos, neg_ℤ, ◌+ℤ◌, Float, if◌then◌else◌}
use Rattle.std.specs.Float.{nan, inf, fin, binary64}
use Rattle.std.specs.Float.Ieee.{up, down, fits, of_int, size}
use Rattle.std.specs.Float.Ieee.Positive.{positive}
use Rattle.floats.specs.Operators.{decimal, ◌⊕◌, ◌⊖◌, ◌⊗◌, ◌⊘◌, ◌≺◌}
use Rattle.floats.specs.Wholes.{units_of}
use Rattle.elementary.specs.Tables.{L, polynomial}
use Rattle.elementary.specs.Exp.{H, J}

-- The entry of table L that the sum starts at.
abbrev pub ln_degree : ℕ
ln_degree = 10

-- ---- "v = m × 2^e, m in [1, 2)"
-- For a finite v above 0, in units of 2^-1074: v × down e = m × up e where 2^e = up e / down e, and 1 is 2^1074 units.
pub record TakenApart (v m : Float) (e : ℤ) : Type 0 where
  pub held : T (fits binary64 m)
  pub sign : T (positive m)
  pub value : units_of v * down e ≡ units_of m * up e
  pub at_least_1 : 2 ^ 1074 ≤ units_of m
  pub below_2 : units_of m < 2 * 2 ^ 1074

-- The digits of v with the point after the first one, and how far it was moved.
unfoldable pub mantissa : Float → Float
mantissa nan = nan
mantissa (inf s) = nan
mantissa (fin s m e) = fin s m (neg_ℤ (pos (size m - 1)))

unfoldable pub exponent : Float → ℤ
exponent nan = pos 0
exponent (inf s) = pos 0
exponent (fin s m e) = e +ℤ pos (size m - 1)

-- ---- ln
abbrev pub ratio : Float → Float
ratio m = (m ⊖ decimal 1 1) ⊘ (m ⊕ decimal 1 1)

-- m at most 1.4142135623730951, with its e.
unfoldable pub ln_at : Float → ℤ → Float
ln_at m e =
    let z = ratio m in
    let q = polynomial L ln_degree (z ⊗ z) in
    let f = of_int binary64 e in
    f ⊗ H ⊕ (decimal 2 1 ⊗ z ⊗ q ⊕ f ⊗ J)

-- m in [1, 2).
unfoldable pub ln_from : Float → ℤ → Float
unfolding ln_at
ln_from m e = if decimal 14142135623730951 (10 ^ 16) ≺ m then ln_at (m ⊗ decimal 1 2) (e +ℤ pos 1) else ln_at m e

unfoldable pub ln : Float → Float
unfolding ln_from mantissa exponent
ln nan = nan
ln (inf s) = if s then nan else inf false
ln (fin s zero e) = inf true
ln (fin s (suc m) e) = if s then nan else ln_from (mantissa (fin s (suc m) e)) (exponent (fin s (suc m) e))
