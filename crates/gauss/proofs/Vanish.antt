-- Where exp(-(v × v)) vanishes, erfc by the fraction is 0: the fraction of a v above 0 is above 0. Assumes nothing.
use mathlib.Core.Path.{◌≡◌, sym}
use mathlib.Core.Bool.{true, false}
use Prim.Native.Nat.{ℕ, zero, suc, ◌-◌, ◌^◌, ◌≤◌}
use native.Mathlib.Omega.{arith}
use lib.Dec.{T, lit<, lit≤}
use lib.IntN.{pos}
use lib.Pow.{pow_pos}
use lib.Ieee.{Float, binary64, fits, neg, eq, of_int}
use lib.Ieee.Fits.{mul-fits}
use lib.Ieee.Positive.{above}
use Rattle.floats.specs.Operators.{decimal, ◌⊗◌, ◌⊘◌, ◌≺◌}
use Rattle.floats.proofs.Signs.{O}
use Rattle.floats.proofs.Bounds.{AtLeast, Clear, power_short, clear_of, bounded_div, least_round, negative_div, int_bound, whole_clear}
use Rattle.floats.proofs.Above.{above_of_lt, above_more, zero_over}
use Rattle.elementary.specs.Exp.{exp}
use Rattle.gauss.specs.Erfc.{fraction, levels, erfc_from_zero}

pub two_least : AtLeast (2 ^ 1075) (decimal 2 1)
two_least = least_round (2 ^ 1075) false 2 1 (power_short 1075 (lit< tt)) (lit< tt) (lit≤ tt)

pub halved_clear : (j : ℕ) → j ≤ 60 → Clear (decimal j 1 ⊘ decimal 2 1)
unfolding of_int
halved_clear j h =
    let l : j ≤ 2048 = omega arith in
    clear_of (2 ^ 1084) (decimal j 1 ⊘ decimal 2 1)
    (bounded_div 1085 1075 1084 (decimal j 1) (decimal 2 1) (lit< tt) (lit≤ tt) (int_bound (pos j) l) two_least)
    (negative_div (2 ^ 1075) (decimal j 1) (decimal 2 1) (whole_clear j l) (whole_clear 2 (lit≤ tt)) (pow_pos 1075) two_least)

fraction_above : (v : Float) (n : ℕ) → T (fits binary64 v) → T (above v) → T (above (fraction v n))
unfolding fraction
fraction_above v zero f p = p
fraction_above v (suc n) f p =
    above_more v (decimal (60 - n) 1 ⊘ decimal 2 1) (fraction v n) f p (halved_clear (60 - n) (omega arith)) (fraction_above v n f p)

-- exp(-(v × v)) × 0.5641895835477563
abbrev pub over : Float → Float
over e = e ⊗ decimal 5641895835477563 (10 ^ 16)

pub vanishes : (v e : Float) → T (fits binary64 v) → v ≺ decimal 2 1 ≡ false → O ≺ v ≡ true → e ≡ exp (neg (v ⊗ v)) → eq (over e) O ≡ true
    → over e ≡ erfc_from_zero v
unfolding erfc_from_zero
vanishes v e f l p h z =
    rw (l, ← h) (sym (zero_over (over e) (fraction v levels) (mul-fits binary64 e _) z (fraction_above v levels f (above_of_lt v p))))
