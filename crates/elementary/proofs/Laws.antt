-- The laws of exp and ln. Assumes nothing.
use Rattle.std.specs.Prelude.{if◌then◌else◌}
use mathlib.Core.Path.{◌≡◌, refl, sym, ap, ◌∙◌}
use mathlib.Core.Bool.{Bool, true, false, true≢false}
use Prim.Native.Nat.{ℕ, zero, suc, ◌*◌, ◌^◌}
use native.Mathlib.Omega.{arith}
use borrow.Author.Tests.{ltb-false, le-ltb}
use lib.Dec.{T}
use lib.IntN.{ℤ, pos, negsuc, ◌+ℤ◌}
use lib.Ieee.Positive.{positive}
use lib.Ieee.{Float, nan, inf, fin, binary64, up, down, is_nan, lt, neg, add, sub, mul, of_int, round, odd, size, fits}
use Rattle.floats.specs.Operators.{decimal, ◌⊕◌, ◌⊗◌, ◌≺◌}
use Rattle.floats.proofs.Same.{same, same_is}
use Rattle.floats.proofs.Tests.{by, split}
use Rattle.floats.proofs.Signs.{O, not_both_signs, lt_of_above, not_below_round}
use Rattle.floats.proofs.Minimum.{round_number}
use Rattle.elementary.specs.Tables.{E, L, horner, polynomial}
use Rattle.elementary.specs.Exp.{H, J, exp, exp_at, exp_far_at, scaled, floor, LargestNotAbove}
use Rattle.elementary.specs.Ln.{ln, ln_at, ln_from, ratio, mantissa, exponent}
use Rattle.elementary.specs.Laws.{Laws, sum_by, power}
use Rattle.elementary.proofs.Largest.{largest_unique}
use Rattle.elementary.proofs.Scaled as scaled
use Rattle.elementary.proofs.Positive.{at_k_above, far_once}
use Rattle.elementary.proofs.Mantissas as mantissas

above_is : (v : Float) → decimal 709 1 ≺ v ≡ true → is_nan v ≡ false
unfolding lt round is_nan
above_is nan h = sym h
above_is (inf s) h = refl
above_is (fin s m e) h = refl

-- below a limit that is below 0
below_is : (i : ℕ) (g : ℤ) (v : Float) → v ≺ fin true i g ≡ true → (is_nan v ≡ false) × (decimal 709 1 ≺ v ≡ false)
unfolding lt round is_nan
below_is i g nan h = absurd (true≢false (sym h))
below_is i g (inf false) h = absurd (true≢false (sym h))
below_is i g (inf true) h = (refl, refl)
below_is i g (fin false m e) h = absurd (true≢false (sym h))
below_is i g (fin true m e) h = (refl, refl)

below_underflow : (v : Float) → v ≺ neg (decimal 745 1) ≡ true → (is_nan v ≡ false) × (decimal 709 1 ≺ v ≡ false)
unfolding neg round
below_underflow v h = below_is 745 (pos 0) v h

below_normal : (v : Float) → v ≺ neg (decimal 708 1) ≡ true → (is_nan v ≡ false) × (decimal 709 1 ≺ v ≡ false)
unfolding neg round
below_normal v h = below_is 177 (pos 2) v h

-- what is not below -708 is not below -745
normal_not_under : (v : Float) → v ≺ neg (decimal 708 1) ≡ false → v ≺ neg (decimal 745 1) ≡ false
unfolding lt neg round
normal_not_under nan h = refl
normal_not_under (inf false) h = refl
normal_not_under (inf true) h = absurd (true≢false h)
normal_not_under (fin false m e) h = refl
normal_not_under (fin true m e) h = let k = ltb-false (177 * 4 * down e) (m * up e * 1) h in le-ltb (745 * 1 * down e) (m * up e * 1) (omega arith)

-- the four tests of exp, in their order
first_of : (a b : Bool) (w x y : Float) → a ≡ false → b ≡ true → (if a then w else if b then x else y) ≡ x
first_of a b w x y p q = rw (p, q)

second_of : (a b c : Bool) (w x y z : Float) → a ≡ false → b ≡ false → c ≡ true → (if a then w else if b then x else if c then y else z) ≡ y
second_of a b c w x y z p q r = rw (p, q, r)

late_of : (a b c : Bool) (w x y z : Float) → a ≡ false → b ≡ false → c ≡ false → (if a then w else if b then x else if c then y else z) ≡ z
late_of a b c w x y z p q r = rw (p, q, r)

-- from -745 to 709, what stands behind the first three
abbrev made : Float → Float
made v = if v ≺ neg (decimal 708 1) then exp_far_at v (floor (scaled v)) else exp_at v (floor (scaled v))

exp_else : (v : Float) → is_nan v ≡ false → decimal 709 1 ≺ v ≡ false → v ≺ neg (decimal 745 1) ≡ false → exp v ≡ made v
unfolding exp
exp_else v n h l = late_of (is_nan v) (decimal 709 1 ≺ v) (v ≺ neg (decimal 745 1)) nan (inf false) (decimal 0 1) (made v) n h l

pub exp_above : (v : Float) → decimal 709 1 ≺ v ≡ true → exp v ≡ inf false
unfolding exp
exp_above v h = first_of (is_nan v) (decimal 709 1 ≺ v) nan (inf false) _ (above_is v h) h

pub exp_below : (v : Float) → v ≺ neg (decimal 745 1) ≡ true → exp v ≡ decimal 0 1
unfolding exp
exp_below v h =
    let b = below_underflow v h in
    second_of (is_nan v) (decimal 709 1 ≺ v) (v ≺ neg (decimal 745 1)) nan (inf false) (decimal 0 1) (made v) b.0 b.1 h

pub exp_normal : (v : Float) → is_nan v ≡ false → decimal 709 1 ≺ v ≡ false → v ≺ neg (decimal 708 1) ≡ false → exp v ≡ exp_at v (floor (scaled v))
exp_normal v n h l = exp_else v n h (normal_not_under v l) ∙ rw l refl

pub exp_subnormal : (v : Float) → v ≺ neg (decimal 708 1) ≡ true → v ≺ neg (decimal 745 1) ≡ false → exp v ≡ exp_far_at v (floor (scaled v))
exp_subnormal v h l = let b = below_normal v h in exp_else v b.0 b.1 l ∙ rw h refl

-- by any k that is the largest
exp_between : (v : Float) (k : ℤ) → is_nan v ≡ false → decimal 709 1 ≺ v ≡ false → v ≺ neg (decimal 708 1) ≡ false → LargestNotAbove (scaled v) k
    → exp v ≡ sum_by v k ⊗ power k
unfolding exp_at
exp_between v k n h l K =
    exp_normal v n h l ∙ ap (exp_at v) (largest_unique (scaled v) (floor (scaled v)) k (scaled.k_largest v n h (normal_not_under v l)) K)

exp_far : (v : Float) (k : ℤ) → v ≺ neg (decimal 708 1) ≡ true → v ≺ neg (decimal 745 1) ≡ false → LargestNotAbove (scaled v) k
    → exp v ≡ sum_by v k ⊗ power (k +ℤ pos 200) ⊗ power (negsuc 199)
unfolding exp_far_at
exp_far v k h l K =
    let b = below_normal v h in
    exp_subnormal v h l ∙ ap (exp_far_at v) (largest_unique (scaled v) (floor (scaled v)) k (scaled.k_largest v b.0 b.1 l) K)

-- at -708 itself, by computation
abbrev limit : Float
limit = neg (decimal 708 1)

meets : exp limit ≡ exp_far_at limit (floor (scaled limit))
unfolding same exp exp_far_at floor horner E add sub mul neg lt round of_int is_nan odd size
meets = same_is _ _ tt

limit_largest : LargestNotAbove (scaled limit) (floor (scaled limit))
unfolding neg lt round is_nan
limit_largest = scaled.k_largest limit refl refl refl

exp_meets : (k : ℤ) → LargestNotAbove (scaled limit) k → exp limit ≡ sum_by limit k ⊗ power (k +ℤ pos 200) ⊗ power (negsuc 199)
unfolding exp_far_at
exp_meets k K = meets ∙ ap (exp_far_at limit) (largest_unique (scaled limit) (floor (scaled limit)) k limit_largest K)

-- ---- one rounding, and above 0
-- from -745 to 709 exp is p × 2^k
pub exp_made : (v : Float) → T (fits binary64 v) → is_nan v ≡ false → decimal 709 1 ≺ v ≡ false → v ≺ neg (decimal 745 1) ≡ false
    → exp v ≡ sum_by v (floor (scaled v)) ⊗ power (floor (scaled v))
unfolding exp_at exp_far_at
exp_made v f n h l =
    exp_else v n h l
    ∙ by (λ (x : Float). x ≡ sum_by v (floor (scaled v)) ⊗ power (floor (scaled v)))
    (λ (t : Bool). if t then exp_far_at v (floor (scaled v)) else exp_at v (floor (scaled v))) (v ≺ neg (decimal 708 1)) (far_once v f n h l) (λ t. refl)

exp_once : (v : Float) (k : ℤ) → T (fits binary64 v) → is_nan v ≡ false → decimal 709 1 ≺ v ≡ false → v ≺ neg (decimal 745 1) ≡ false
    → LargestNotAbove (scaled v) k → exp v ≡ sum_by v k ⊗ power k
exp_once v k f n h l K =
    exp_made v f n h l
    ∙ ap (λ (k : ℤ). sum_by v k ⊗ power k) (largest_unique (scaled v) (floor (scaled v)) k (scaled.k_largest v n h l) K)

exp_positive : (v : Float) → T (fits binary64 v) → is_nan v ≡ false → v ≺ neg (decimal 745 1) ≡ false → O ≺ exp v ≡ true
exp_positive v f n l =
    split (decimal 709 1 ≺ v) (λ h. ap (λ (x : Float). O ≺ x) (exp_above v h) ∙ lt_of_above (inf false) tt)
    (λ h. ap (λ (x : Float). O ≺ x) (exp_made v f n h l) ∙ at_k_above v f n h l)

above_number : (x : Float) → O ≺ x ≡ true → is_nan x ≡ false
unfolding lt round is_nan
above_number nan h = absurd (true≢false (sym h))
above_number (inf s) h = refl
above_number (fin s m e) h = refl

exp_number : (v : Float) → T (fits binary64 v) → is_nan v ≡ false → is_nan (exp v) ≡ false
exp_number v f n =
    split (v ≺ neg (decimal 745 1)) (λ t. ap is_nan (exp_below v t) ∙ round_number false 0 1) (λ t. above_number (exp v) (exp_positive v f n t))

exp_not_below : (v : Float) → T (fits binary64 v) → is_nan v ≡ false → exp v ≺ O ≡ false
exp_not_below v f n =
    split (v ≺ neg (decimal 745 1)) (λ t. ap (λ (x : Float). x ≺ O) (exp_below v t) ∙ not_below_round 0 1)
    (λ t. split (exp v ≺ O) (λ b. absurd (not_both_signs (exp v) (exp_positive v f n t) b)) (λ b. b))

-- ---- ln
-- m above the limit, and not
pub halved : (m : Float) (e : ℤ) → decimal 14142135623730951 (10 ^ 16) ≺ m ≡ true → ln_at (m ⊗ decimal 1 2) (e +ℤ pos 1) ≡ ln_from m e
unfolding ln_from
halved m e h = rw h

pub kept : (m : Float) (e : ℤ) → decimal 14142135623730951 (10 ^ 16) ≺ m ≡ false → ln_at m e ≡ ln_from m e
unfolding ln_from
kept m e h = rw h

pub at_positive : (v : Float) → T (positive v) → ln_from (mantissa v) (exponent v) ≡ ln v
unfolding ln
at_positive nan n = absurd n
at_positive (inf s) n = absurd n
at_positive (fin true m e) n = absurd n
at_positive (fin false zero e) n = absurd n
at_positive (fin false (suc m) e) n = refl

ln_sum : (m : Float) (e : ℤ) → ln_at m e
    ≡ of_int binary64 e ⊗ H ⊕ (decimal 2 1 ⊗ ratio m ⊗ polynomial L 10 (ratio m ⊗ ratio m) ⊕ of_int binary64 e ⊗ J)
unfolding ln_at
ln_sum m e = refl

pub laws : Laws
laws =
    record {
      exp_above = exp_above;
      exp_below = exp_below;
      k_largest = scaled.k_largest;
      exp_between = exp_between;
      exp_far = exp_far;
      exp_meets = exp_meets;
      exp_once = exp_once;
      exp_positive = exp_positive;
      exp_number = exp_number;
      exp_not_below = exp_not_below;
      taken_apart = mantissas.taken_apart;
      ln_halved = λ v p h. sym (at_positive v p) ∙ sym (halved (mantissa v) (exponent v) h);
      ln_kept = λ v p h. sym (at_positive v p) ∙ sym (kept (mantissa v) (exponent v) h);
      ln_sum = ln_sum;
    }
