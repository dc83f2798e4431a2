-- What holds of the definitions of exp and ln, whatever the code does: the words of document 01, and of 02's S-8, each beside the definition that answers it.
use Rattle.std.specs.Prelude.{◌≡◌, true, false, T, ◌^◌, ℤ, pos, negsuc, ◌+ℤ◌, Float}
use Rattle.std.specs.Float.{inf, fin, binary64}
use Rattle.std.specs.Float.Ieee.{fits, is_nan, neg, of_int}
use Rattle.std.specs.Float.Ieee.Positive.{positive}
use Rattle.floats.specs.Operators.{decimal, ◌⊕◌, ◌⊖◌, ◌⊗◌, ◌⊘◌, ◌≺◌}
use Rattle.elementary.specs.Tables.{E, L, polynomial}
use Rattle.elementary.specs.Exp.{exp, floor, LargestNotAbove}
use Rattle.elementary.specs.Ln.{TakenApart, mantissa, exponent, ln, ln_at}

-- 01's numbers and steps a second time, so that one that is wrong in definition and code alike does not fit the laws.
abbrev pub upper_ln2 : Float
upper_ln2 = decimal 693147180369123816490 (10 ^ 21)

abbrev pub lower_ln2 : Float
lower_ln2 = decimal 190821492927058770002 (10 ^ 30)

abbrev pub scaled_by : Float → Float
scaled_by v = v ⊗ decimal 14426950408889634 (10 ^ 16) ⊕ decimal 1 2

-- "r = (v - k×H) - k×J; p starts at E[13] .."
abbrev pub sum_by : Float → ℤ → Float
sum_by v k = polynomial E 13 (v ⊖ of_int binary64 k ⊗ upper_ln2 ⊖ of_int binary64 k ⊗ lower_ln2)

abbrev pub power : ℤ → Float
power k = fin false 1 k

abbrev pub ln_ratio : Float → Float
ln_ratio m = (m ⊖ decimal 1 1) ⊘ (m ⊕ decimal 1 1)

pub record Laws : Type 0 where
  -- "above 709, infinity"; S-8: "below -745 it gives 0.0"
  pub exp_above : (v : Float) → decimal 709 1 ≺ v ≡ true → exp v ≡ inf false
  pub exp_below : (v : Float) → v ≺ neg (decimal 745 1) ≡ true → exp v ≡ decimal 0 1
  -- "k is the largest whole number not above v × 1.4426950408889634 + 0.5": there is one, and exp is what it makes,
  pub k_largest : (v : Float) → is_nan v ≡ false → decimal 709 1 ≺ v ≡ false → v ≺ neg (decimal 745 1) ≡ false
      → LargestNotAbove (scaled_by v) (floor (scaled_by v))
  -- from -708 up "the answer is p × 2^k"
  pub exp_between : (v : Float) (k : ℤ) → is_nan v ≡ false → decimal 709 1 ≺ v ≡ false → v ≺ neg (decimal 708 1) ≡ false → LargestNotAbove (scaled_by v) k
      → exp v ≡ sum_by v k ⊗ power k
  -- S-8: "for v below -708, with k the same, p is multiplied by 2^(k+200) and then by 2^-200"
  pub exp_far : (v : Float) (k : ℤ) → v ≺ neg (decimal 708 1) ≡ true → v ≺ neg (decimal 745 1) ≡ false → LargestNotAbove (scaled_by v) k
      → exp v ≡ sum_by v k ⊗ power (k +ℤ pos 200) ⊗ power (negsuc 199)
  -- the two meet: at -708 itself, where exp is 01's p × 2^k, the two products make the same
  pub exp_meets : (k : ℤ) → LargestNotAbove (scaled_by (neg (decimal 708 1))) k
      → exp (neg (decimal 708 1)) ≡ sum_by (neg (decimal 708 1)) k ⊗ power (k +ℤ pos 200) ⊗ power (negsuc 199)
  -- Beyond S-8: the first of its two products is exact, so that from -745 to 709 exp is p × 2^k rounded once (2^-1075, the least, is no f64 itself),
  pub exp_once : (v : Float) (k : ℤ) → T (fits binary64 v) → is_nan v ≡ false → decimal 709 1 ≺ v ≡ false → v ≺ neg (decimal 745 1) ≡ false
      → LargestNotAbove (scaled_by v) k → exp v ≡ sum_by v k ⊗ power k
  -- above 0.0 from -745 up, and of every number a number that is not below 0.0
  pub exp_positive : (v : Float) → T (fits binary64 v) → is_nan v ≡ false → v ≺ neg (decimal 745 1) ≡ false → decimal 0 1 ≺ exp v ≡ true
  pub exp_number : (v : Float) → T (fits binary64 v) → is_nan v ≡ false → is_nan (exp v) ≡ false
  pub exp_not_below : (v : Float) → T (fits binary64 v) → is_nan v ≡ false → exp v ≺ decimal 0 1 ≡ false
  -- "v = m × 2^e, m in [1, 2) (subnormals also)"
  pub taken_apart : (v : Float) → T (fits binary64 v) → T (positive v) → TakenApart v (mantissa v) (exponent v)
  -- "if m > 1.4142135623730951, halve m and add 1 to e"
  pub ln_halved : (v : Float) → T (positive v) → decimal 14142135623730951 (10 ^ 16) ≺ mantissa v ≡ true → ln v
      ≡ ln_at (mantissa v ⊗ decimal 1 2) (exponent v +ℤ pos 1)
  pub ln_kept : (v : Float) → T (positive v) → decimal 14142135623730951 (10 ^ 16) ≺ mantissa v ≡ false → ln v ≡ ln_at (mantissa v) (exponent v)
  -- "z = (m-1)/(m+1), w = z×z; q starts at L[10] .. answer e×H + ((2×z)×q + e×J)"
  pub ln_sum : (m : Float) (e : ℤ) → ln_at m e
      ≡ of_int binary64 e ⊗ upper_ln2 ⊕ (decimal 2 1 ⊗ ln_ratio m ⊗ polynomial L 10 (ln_ratio m ⊗ ln_ratio m) ⊕ of_int binary64 e ⊗ lower_ln2)
