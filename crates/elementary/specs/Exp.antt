-- Document 01, 'exp(v)': "above 709, infinity; .. k is the largest whole number not above v × 1.4426950408889634 + 0.5; r = (v - k×H) - k×J; p starts at
-- E[13] and for i from 12 down to 0 becomes p×r + E[i]; the answer is p × 2^k." Document 02, S-8, for 01's "below -708, 0.0": "exp now answers down to
-- -745 through subnormals: for v below -708, with k the same, p is multiplied by 2^(k+200) and then by 2^-200; below -745 it gives 0.0."
use Rattle.std.specs.Prelude.{ℕ, ◌+◌, ◌-◌, ◌*◌, ◌/◌, ◌^◌, true, false, ℤ, pos, neg_ℤ, ◌+ℤ◌, ◌*ℤ◌, ◌≤ℤ◌, Float, if◌then◌else◌}
use Rattle.std.specs.Float.{nan, inf, fin, binary64}
use Rattle.std.specs.Float.Ieee.{up, down, neg, is_nan, of_int}
use Rattle.floats.specs.Operators.{decimal, ◌⊕◌, ◌⊖◌, ◌⊗◌, ◌≺◌}
use Rattle.floats.specs.Wholes.{whole_of}
use Rattle.elementary.specs.Tables.{E, polynomial}

-- fdlibm's split of ln 2: H = 0.693147180369123816490, J = 1.90821492927058770002e-10.
abbrev pub H : Float
H = decimal 693147180369123816490 (10 ^ 21)

abbrev pub J : Float
J = decimal 190821492927058770002 (10 ^ 30)

-- Above the first, infinity; from the second up 2^k and the answer are normal; below the third, 0.0.
abbrev pub overflow_limit : Float
overflow_limit = decimal 709 1

abbrev pub normal_limit : Float
normal_limit = neg (decimal 708 1)

abbrev pub underflow_limit : Float
underflow_limit = neg (decimal 745 1)

-- The entry of table E that the sum starts at.
abbrev pub exp_degree : ℕ
exp_degree = 13

-- ---- "the largest whole number not above"
-- k ≤ x, for a finite x: both over 2^1074.
abbrev pub not_above : ℤ → Float → Type 0
not_above k x = (k *ℤ pos (2 ^ 1074)) ≤ℤ whole_of x

pub record LargestNotAbove (x : Float) (k : ℤ) : Type 0 where
  pub not_above_lem : not_above k x
  pub largest : (j : ℤ) → not_above j x → j ≤ℤ k

-- A finite x is m × up e / down e, with its sign.
unfoldable pub floor : Float → ℤ
floor nan = pos 0
floor (inf s) = pos 0
floor (fin false m e) = pos (m * up e / down e)
floor (fin true m e) = neg_ℤ (pos ((m * up e + (down e - 1)) / down e))

-- ---- exp
-- v × 1.4426950408889634 + 0.5, of which k is the floor.
abbrev pub scaled : Float → Float
scaled v = v ⊗ decimal 14426950408889634 (10 ^ 16) ⊕ decimal 1 2

-- v - k ln 2, with ln 2 in two parts.
abbrev pub remainder : Float → ℤ → Float
remainder v k = v ⊖ of_int binary64 k ⊗ H ⊖ of_int binary64 k ⊗ J

-- p, the sum over table E.
abbrev pub sum_at : Float → ℤ → Float
sum_at v k = polynomial E exp_degree (remainder v k)

-- 2^k, a normal float for k from -1022 to 1023.
abbrev pub two_to : ℤ → Float
two_to k = fin false 1 k

-- p × 2^k.
unfoldable pub exp_at : Float → ℤ → Float
exp_at v k = sum_at v k ⊗ two_to k

-- p × 2^(k+200), and then × 2^-200: two products, and so two roundings.
unfoldable pub exp_far_at : Float → ℤ → Float
exp_far_at v k = sum_at v k ⊗ two_to (k +ℤ pos 200) ⊗ two_to (neg_ℤ (pos 200))

unfoldable pub exp : Float → Float
unfolding floor exp_at exp_far_at
exp v =
    if is_nan v then nan
    else if overflow_limit ≺ v then inf false
    else if v ≺ underflow_limit then decimal 0 1
    else if v ≺ normal_limit then exp_far_at v (floor (scaled v))
    else exp_at v (floor (scaled v))
