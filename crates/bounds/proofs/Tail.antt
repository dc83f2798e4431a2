-- erfc of what is at most 2^126 in size is at most 2^308, and so is the normal distribution. Assumes nothing.
use Rattle.std.specs.Prelude.{if◌then◌else◌}
use mathlib.Core.Path.{◌≡◌, refl, sym, ap, ◌∙◌, subst}
use Prim.Native.Nat.{ℕ, zero, suc, ◌+◌, ◌-◌, ◌*◌, ◌^◌, ◌≤◌, ◌<◌, zero-le}
use native.Mathlib.Nat.{le_trans, le_of_eq, le_of_lt, mul-le-mul_right, zero-mul}
use native.Mathlib.Omega.{arith}
use mathlib.Core.Bool.{Bool, true, false, true≢false}
use lib.IntN.{pos}
use lib.Dec.{lit<, lit≤}
use lib.Pow.{pow_pos}
use borrow.Author.Tests.{ltb-true, ltb-false, lt-ltb}
use lib.Ieee.{Float, nan, inf, fin, binary64, up, down, neg, lt, round}
use lib.Ieee.Fits.{down_pos, mul-fits, neg-fits}
use Rattle.floats.specs.Operators.{decimal, ◌⊕◌, ◌⊖◌, ◌⊗◌, ◌⊘◌, ◌≺◌}
use Rattle.floats.proofs.Tests.{by}
use Rattle.floats.proofs.Signs.{O, below_zero}
use Rattle.floats.proofs.Minimum.{NotBelow}
use Rattle.floats.proofs.Quotients.{not_below_of}
use Rattle.floats.proofs.Bounds.{Bounded, Clear, AtLeast, power_short, bounded_more, round_bound, clear_of, bounded_mul, bounded_add, bounded_neg}
use Rattle.floats.proofs.Bounds.{bounded_sub, bounded_div, least_round, least_add_left, negative_add, negative_square, negative_div, upto_neg}
use Rattle.elementary.specs.Exp.{exp}
use Rattle.gauss.specs.Erfc.{Series, next_term, series, fraction, erfc_from_zero, erfc}
use Rattle.gauss.specs.Normal.{cdf}
use Rattle.gauss.proofs.Vanish.{two_least, halved_clear}
use Rattle.bounds.proofs.Exponential.{exp_bound, one_bound, two_bound, half_bound}

-- ---- constants
abbrev front : Float
front = decimal 11283791670955126 (10 ^ 16)

front_bound : Bounded 1075 front
front_bound = round_bound 1075 false 11283791670955126 (10 ^ 16) (lit< tt) (lit< tt) (lit≤ tt)

abbrev tail : Float
tail = decimal 5641895835477563 (10 ^ 16)

tail_bound : Bounded 1074 tail
tail_bound = round_bound 1074 false 5641895835477563 (10 ^ 16) (lit< tt) (lit< tt) (lit≤ tt)

abbrev root2 : Float
root2 = decimal 14142135623730951 (10 ^ 16)

root2_least : AtLeast (2 ^ 1074) root2
root2_least = least_round (2 ^ 1074) false 14142135623730951 (10 ^ 16) (power_short 1074 (lit< tt)) (lit< tt) (lit≤ tt)

-- ---- the series, v at most 2: each round multiplies by at most 8
odd_least : (n : ℕ) → AtLeast (2 ^ 1074) (decimal (2 * n + 3) 1)
odd_least n = least_round (2 ^ 1074) false (2 * n + 3) 1 (power_short 1074 (lit< tt)) (lit< tt) (go n (2 ^ 1074))
  where
    go : (n k : ℕ) → k * 1 ≤ (2 * n + 3) * k
    go n k = omega arith

record Summed (n : ℕ) (p : Series) : Type 0 where
  term : Bounded (1075 + 3 * n) p.g
  total : Bounded (1076 + 3 * n) p.sum

next_bound : (v : Float) (n : ℕ) (p : Series) → n ≤ 40 → Bounded 1075 v → Summed n p → Summed (suc n) (next_term v n p)
unfolding next_term
next_bound v n p h b s =
    let twice = bounded_mul 1075 1075 1076 (decimal 2 1) v (lit< tt) (lit≤ tt) two_bound b in
    let xb = bounded_mul 1076 1075 1077 (decimal 2 1 ⊗ v) v (lit< tt) (lit≤ tt) twice b in
    let gx = bounded_mul (1075 + 3 * n) 1077 (1075 + 3 * suc n) p.g (decimal 2 1 ⊗ v ⊗ v) (omega arith) (omega arith) s.term xb in
    let g = bounded_div (1075 + 3 * suc n) 1074 (1075 + 3 * suc n) (p.g ⊗ (decimal 2 1 ⊗ v ⊗ v)) (decimal (2 * n + 3) 1) (omega arith) (omega arith) gx
    (odd_least n) in
    record {
      term = g;
      total = bounded_more (1075 + 3 * suc n + 1) (1076 + 3 * suc n) (p.sum ⊕ p.g ⊗ (decimal 2 1 ⊗ v ⊗ v) ⊘ decimal (2 * n + 3) 1) (omega arith)
          (bounded_add (1076 + 3 * n) (1075 + 3 * suc n) (1075 + 3 * suc n) p.sum (p.g ⊗ (decimal 2 1 ⊗ v ⊗ v) ⊘ decimal (2 * n + 3) 1) (omega arith)
          (omega arith) (omega arith) s.total g);
    }

series_bound : (v : Float) → Bounded 1075 v → (n : ℕ) → n ≤ 40 → Summed n (series v n)
unfolding series
series_bound v b zero h = record { term = b; total = bounded_more 1075 1076 v (lit≤ tt) b }
series_bound v b (suc n) h = let l : n ≤ 40 = omega arith in next_bound v n (series v n) l b (series_bound v b n l)

-- ---- the fraction, v from 2: each c is at least 2
record Grown (c : Float) : Type 0 where
  bound : Bounded 1201 c
  clear : Clear c
  least : AtLeast (2 ^ 1075) c

level_bound : (j : ℕ) → j ≤ 60 → Bounded 1080 (decimal j 1)
level_bound j h = round_bound 1080 false j 1 (lit< tt) (lit< tt) (go j (2 ^ 1074) h)
  where
    go : (j k : ℕ) → j ≤ 60 → j * k ≤ 64 * k * 1
    go j k h = omega (arith, mul-le-mul_right k h)

grown : (v : Float) → Bounded 1200 v → Clear v → AtLeast (2 ^ 1075) v → (n : ℕ) → Grown (fraction v n)
unfolding fraction
grown v b c l zero = record { bound = bounded_more 1200 1201 v (lit≤ tt) b; clear = c; least = l }
grown v b c l (suc n) =
    let j = decimal (60 - n) 1 in
    let y = fraction v n in
    let g = grown v b c l n in
    let jb = level_bound (60 - n) (omega arith) in
    let hb = bounded_div 1080 1075 1080 (decimal (60 - n) 1) (decimal 2 1) (lit< tt) (lit≤ tt) jb two_least in
    let hc = halved_clear (60 - n) (omega arith) in
    let qb = bounded_div 1080 1075 1080 (decimal (60 - n) 1 ⊘ decimal 2 1) (fraction v n) (lit< tt) (lit≤ tt) hb g.least in
    let qc = clear_of (2 ^ 1080) (decimal (60 - n) 1 ⊘ decimal 2 1 ⊘ fraction v n) qb
    (negative_div (2 ^ 1075) (decimal (60 - n) 1 ⊘ decimal 2 1) (fraction v n) hc g.clear (pow_pos 1075) g.least) in
    let sb = bounded_add 1200 1080 1200 v (j ⊘ decimal 2 1 ⊘ y) (lit< tt) (lit≤ tt) (lit≤ tt) b qb in
    record {
      bound = sb;
      clear = clear_of (2 ^ 1201) (v ⊕ j ⊘ decimal 2 1 ⊘ y) sb (negative_add v (j ⊘ decimal 2 1 ⊘ y) c qc);
      least = least_add_left (2 ^ 1075) v (j ⊘ decimal 2 1 ⊘ y) (power_short 1075 (lit< tt)) c qc l;
    }

-- ---- v under 2, and from 2
two_is : fin false 1 (pos 1) ≡ decimal 2 1
two_is = unfold round in refl

under_two : (v : Float) → NotBelow v → v ≺ decimal 2 1 ≡ true → Bounded 1075 v
under_two v n h = go v n (subst (λ (x : Float). v ≺ x ≡ true) (sym two_is) h)
  where
    few : (a k d : ℕ) → a * 1 < 1 * 2 * d → a * k ≤ 2 * k * d
    few a k d h = omega (arith, mul-le-mul_right k (le_of_lt h))

    none : (a k w : ℕ) → a ≡ 0 → a * k ≤ w
    none a k w h = le_trans (le_of_eq (ap (λ (z : ℕ). z * k) h ∙ zero-mul k)) zero-le

    go : (v : Float) → NotBelow v → v ≺ fin false 1 (pos 1) ≡ true → Bounded 1075 v
    go nan n h = absurd n
    go (inf s) n h = unfold lt in absurd (true≢false (sym h ∙ n))
    go (fin false m e) n h = unfold lt in few (m * up e) (2 ^ 1074) (down e) (ltb-true (m * up e * 1) (1 * 2 * down e) h)
    go (fin true m e) n h = none (m * up e) (2 ^ 1074) (2 ^ 1075 * down e) n

from_two : (i : ℕ) (v : Float) → Bounded i v → NotBelow v → v ≺ decimal 2 1 ≡ false → Clear v × AtLeast (2 ^ 1075) v
from_two i v b n h = go v b n (subst (λ (x : Float). v ≺ x ≡ false) (sym two_is) h)
  where
    many : (a k d : ℕ) → 1 * 2 * d ≤ a * 1 → 2 * k * d ≤ a * k
    many a k d h = omega (arith, mul-le-mul_right k h)

    some : (a d : ℕ) → 0 < d → 0 < a + 1 * 2 * d
    some a d D = omega arith

    go : (v : Float) → Bounded i v → NotBelow v → v ≺ fin false 1 (pos 1) ≡ false → Clear v × AtLeast (2 ^ 1075) v
    go nan b n h = absurd n
    go (inf s) b n h = absurd b
    go (fin false m e) b n h = unfold lt in (refl, many (m * up e) (2 ^ 1074) (down e) (ltb-false (m * up e * 1) (1 * 2 * down e) h))
    go (fin true m e) b n h =
        unfold lt in absurd (true≢false (sym (lt-ltb 0 (m * up e * 1 + 1 * 2 * down e) (some (m * up e * 1) (down e) (down_pos e))) ∙ h))

-- ---- erfc
square_exp : (v : Float) → Bounded 1200 v → Bounded 1076 (exp (neg (v ⊗ v)))
square_exp v b =
    let s = bounded_mul 1200 1200 1326 v v (lit< tt) (lit≤ tt) b b in
    exp_bound 0 1326 (neg (v ⊗ v)) (neg-fits binary64 (v ⊗ v) (mul-fits binary64 v v)) zero-le (lit≤ tt)
    (upto_neg (0 * 2 ^ 1074) (2 ^ 1326) (v ⊗ v) s (negative_square (2 ^ 1200) v b))
    (bounded_neg 1326 (v ⊗ v) s)

zero_bound : (v : Float) → Bounded 1200 v → NotBelow v → Bounded 1200 (erfc_from_zero v)
unfolding erfc_from_zero
zero_bound v b n =
    let x = exp (neg (v ⊗ v)) in
    let xb = square_exp v b in
    by (Bounded 1200)
    (λ (t : Bool). if t then decimal 1 1 ⊖ front ⊗ exp (neg (v ⊗ v)) ⊗ (series v 40).sum else exp (neg (v ⊗ v)) ⊗ tail ⊘ fraction v 60) (v ≺ decimal 2 1)
    (λ t. bounded_sub 1074 1199 1199 (decimal 1 1) (front ⊗ exp (neg (v ⊗ v)) ⊗ (series v 40).sum) (lit< tt) (lit≤ tt) (lit≤ tt) one_bound
    (bounded_mul 1077 1196 1199 (front ⊗ exp (neg (v ⊗ v))) (series v 40).sum (lit< tt) (lit≤ tt)
    (bounded_mul 1075 1076 1077 front x (lit< tt) (lit≤ tt) front_bound xb) (series_bound v (under_two v n t) 40 (lit≤ tt)).total))
    (λ t. let o = from_two 1200 v b n t in
    bounded_more 1076 1200 (exp (neg (v ⊗ v)) ⊗ tail ⊘ fraction v 60) (lit≤ tt)
    (bounded_div 1076 1075 1076 (exp (neg (v ⊗ v)) ⊗ tail) (fraction v 60) (lit< tt) (lit≤ tt)
    (bounded_mul 1076 1074 1076 x tail (lit< tt) (lit≤ tt) xb tail_bound) (grown v b o.0 o.1 60).least))

not_below : (i : ℕ) (v : Float) → Bounded i v → v ≺ O ≡ false → NotBelow v
not_below i nan b h = b
not_below i (inf s) b h = absurd b
not_below i (fin s m e) b h = not_below_of s m e h

turned : (i : ℕ) (v : Float) → Bounded i v → v ≺ O ≡ true → NotBelow (neg v)
unfolding lt neg round
turned i nan b h = absurd b
turned i (inf s) b h = absurd b
turned i (fin true m e) b h = tt
turned i (fin false m e) b h = absurd (below_zero (m * up e * 1) (down e) h)

erfc_bound : (v : Float) → Bounded 1200 v → Bounded 1201 (erfc v)
unfolding erfc
erfc_bound v b =
    by (Bounded 1201) (λ (t : Bool). if t then decimal 2 1 ⊖ erfc_from_zero (neg v) else erfc_from_zero v) (v ≺ O)
    (λ t. bounded_sub 1075 1200 1200 (decimal 2 1) (erfc_from_zero (neg v)) (lit< tt) (lit≤ tt) (lit≤ tt) two_bound
    (zero_bound (neg v) (bounded_neg 1200 v b) (turned 1200 v b t)))
    (λ t. bounded_more 1200 1201 (erfc_from_zero v) (lit≤ tt) (zero_bound v b (not_below 1200 v b t)))

pub cdf_bound : (x : Float) → Bounded 1200 x → Bounded 1201 (cdf x)
cdf_bound x b =
    bounded_mul 1074 1201 1201 (decimal 1 2) (erfc (neg x ⊘ root2)) (lit< tt) (lit≤ tt) half_bound
    (erfc_bound (neg x ⊘ root2) (bounded_div 1200 1074 1200 (neg x) root2 (lit< tt) (lit≤ tt) (bounded_neg 1200 x b) root2_least))
