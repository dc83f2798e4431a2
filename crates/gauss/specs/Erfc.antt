-- Document 01, 'erfc(v)': "below 0, 2 - erfc(-v). Under 2: g = v, sum = v; for n = 0 to 39, g = (g×((2×v)×v))/(2n+3), added to sum;
-- answer 1 - (1.1283791670955126 × exp(-(v×v))) × sum. From 2: c = v; for j from 60 down to 1, c = v + (j/2)/c; answer (exp(-(v×v)) ×
-- 0.5641895835477563)/c."
use Rattle.std.specs.Prelude.{ℕ, zero, suc, ◌+◌, ◌-◌, ◌*◌, ◌^◌, Float, if◌then◌else◌}
use Rattle.std.specs.Float.Ieee.{neg}
use Rattle.floats.specs.Operators.{decimal, ◌⊕◌, ◌⊖◌, ◌⊗◌, ◌⊘◌, ◌≺◌}
use Rattle.elementary.specs.Exp.{exp}

-- Rounds of the series and of the fraction.
abbrev pub terms : ℕ
terms = 40

abbrev pub levels : ℕ
levels = 60

-- g and the sum, after n rounds.
pub record Series : Type 0 where
  pub g : Float
  pub sum : Float

unfoldable pub next_term : Float → ℕ → Series → Series
next_term v n p =
    let g = p.g ⊗ (decimal 2 1 ⊗ v ⊗ v) ⊘ decimal (2 * n + 3) 1 in
    record { g = g; sum = p.sum ⊕ g }

unfoldable pub series : Float → ℕ → Series
unfolding next_term
series v zero = record { g = v; sum = v }
series v (suc n) = next_term v n (series v n)

-- c after n rounds: round n has j = levels - n.
unfoldable pub fraction : Float → ℕ → Float
fraction v zero = v
fraction v (suc n) = v ⊕ decimal (levels - n) 1 ⊘ decimal 2 1 ⊘ fraction v n

-- v not below 0.
unfoldable pub erfc_from_zero : Float → Float
unfolding exp series fraction
erfc_from_zero v =
    if v ≺ decimal 2 1 then decimal 1 1 ⊖ decimal 11283791670955126 (10 ^ 16) ⊗ exp (neg (v ⊗ v)) ⊗ (series v terms).sum
    else exp (neg (v ⊗ v)) ⊗ decimal 5641895835477563 (10 ^ 16) ⊘ fraction v levels

-- Below 0 this is 2 - erfc(-v), since -v is not below 0 (`erfc_below` of Laws).
unfoldable pub erfc : Float → Float
unfolding erfc_from_zero
erfc v = if v ≺ decimal 0 1 then decimal 2 1 ⊖ erfc_from_zero (neg v) else erfc_from_zero v
