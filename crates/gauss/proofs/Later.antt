-- A settled sum of the series for erfc is its last one: no later term is larger than the one that left it as it was (`shrinks`), so none changes it
-- (`absorbs`). Assumes nothing.
use mathlib.Core.Path.{◌≡◌, sym, ◌∙◌, subst}
use mathlib.Core.Logic.{inl, inr}
use mathlib.Core.Bool.{Bool, true, false, ◌&&◌}
use Prim.Native.Nat.{ℕ, zero, suc, ◌+◌, ◌*◌, ◌^◌, ◌≤◌, ◌<◌}
use native.Mathlib.Nat.{lt_irrefl, le_refl, le_of_lt, eq-or-lt_of_le, le_trans, mul-le-mul_right, le_of_suc-le-suc}
use native.Mathlib.Omega.{arith}
use native.Mathlib.Numerals.{add-one}
use lib.Dec.{T, leb, lit<, lit≤}
use borrow.Author.Tests.{leb-true}
use lib.Ieee.{Float, binary64, round, fits}
use lib.Ieee.Fits.{add-fits, div-fits}
use lib.Ieee.Positive.{positive}
use Rattle.floats.specs.Operators.{decimal, ◌⊕◌, ◌⊗◌, ◌⊘◌, ◌≺◌, ◌≼◌}
use Rattle.floats.proofs.Tests.{holds, and_left, and_right}
use Rattle.floats.proofs.Signs.{O}
use Rattle.floats.proofs.Short.{AtMost}
use Rattle.floats.proofs.Bounds.{AtLeast, Bounded, Clear, power_short, round_bound, least_round, most_le, positive_clear, whole_clear}
use Rattle.floats.proofs.Above.{above_of_lt, positive_of_le, same_of_eq}
use Rattle.floats.proofs.Absorb.{Counted, counted, least_most, absorbs, shrinks}
use Rattle.gauss.specs.Erfc.{Series, terms, next_term, series}
use Rattle.gauss.specs.Steps.{unmoved, largest_factor, late_round, settled}

-- ---- what the tests say
record Tests (n : ℕ) (w g s t : Float) : Type 0 where
  same : unmoved g s t ≡ true
  sum_above : O ≺ s ≡ true
  term : Clear g
  term_most : Bounded 1074 g
  factor : Clear w
  factor_most : Bounded 1077 w
  late : late_round ≤ n

one_positive : T (positive (decimal 1 1))
unfolding round
one_positive = tt

factor_positive : T (positive (decimal largest_factor 1))
unfolding round
factor_positive = tt

-- above 0, and at most a constant
within : (i k : ℕ) (x : Float) → T (positive (decimal k 1)) → Bounded i (decimal k 1) → O ≺ x ≡ true → x ≼ decimal k 1 ≡ true → Clear x × Bounded i x
within i k x p b h l =
    let q = positive_of_le x (decimal k 1) h p l in
    (positive_clear x q, most_le (2 ^ i) x (decimal k 1) q p (holds (x ≼ decimal k 1) l) b)

tests : (n : ℕ) (w g s t : Float) → settled n w g s t ≡ true → Tests n w g s t
unfolding settled
tests n w g s t h =
    let A = unmoved g s t in
    let B = O ≺ s in
    let C = O ≺ g in
    let D = g ≼ decimal 1 1 in
    let E = O ≺ w in
    let F = w ≼ decimal largest_factor 1 in
    let h6 = and_left (A && B && C && D && E && F) (leb late_round n) h in
    let h5 = and_left (A && B && C && D && E) F h6 in
    let h4 = and_left (A && B && C && D) E h5 in
    let h3 = and_left (A && B && C) D h4 in
    let h2 = and_left (A && B) C h3 in
    let p = within 1074 1 g one_positive (round_bound 1074 false 1 1 (lit< tt) (lit< tt) (lit≤ tt)) (and_right (A && B) C h3) (and_right (A && B && C) D h4) in
    let q = within 1077 largest_factor w factor_positive (round_bound 1077 false largest_factor 1 (lit< tt) (lit< tt) (lit≤ tt))
    (and_right (A && B && C && D) E h5) (and_right (A && B && C && D && E) F h6) in
    record {
      same = and_left A B h2;
      sum_above = and_right A B h2;
      term = p.0;
      term_most = p.1;
      factor = q.0;
      factor_most = q.1;
      late = leb-true late_round n (and_right (A && B && C && D && E && F) (leb late_round n) h);
    }

-- ---- the terms after a settled round
divisor_least : (k : ℕ) → late_round ≤ k → AtLeast (2 ^ 1077) (decimal (2 * k + 3) 1)
divisor_least k h = least_round (2 ^ 1077) false (2 * k + 3) 1 (power_short 1077 (lit< tt)) (lit< tt) (go (2 * k + 3) (2 ^ 1074) (omega arith))
  where
    go : (j u : ℕ) → 8 ≤ j → 8 * u * 1 ≤ j * u
    go j u h = omega (arith, mul-le-mul_right u h)

abbrev factor : Float → Float
factor v = decimal 2 1 ⊗ v ⊗ v

sum_fits : (v : Float) (n : ℕ) → late_round ≤ n → T (fits binary64 (series v n).sum)
unfolding series next_term
sum_fits v zero h = absurd (lt_irrefl 0 (omega arith))
sum_fits v (suc n) h = add-fits binary64 _ _

term_fits : (v : Float) (n : ℕ) → T (fits binary64 (series v (suc n)).g)
unfolding series next_term
term_fits v n = div-fits binary64 _ _

-- the sum is s still, and the term has at most c units
record Rest (s : Float) (c : ℕ) (p : Series) : Type 0 where
  sum_is : p.sum ≡ s
  clear : Clear p.g
  most : AtMost c p.g

module _ (v : Float) (n : ℕ) (h : settled n (factor v) (series v (suc n)).g (series v n).sum (series v (suc n)).sum ≡ true) where
  told : Tests n (factor v) (series v (suc n)).g (series v n).sum (series v (suc n)).sum
  told = tests n (factor v) (series v (suc n)).g (series v n).sum (series v (suc n)).sum h

  kept : (series v (suc n)).sum ≡ (series v n).sum
  unfolding series next_term
  kept = same_of_eq (series v (suc n)).sum (series v n).sum (add-fits binary64 _ _) (sum_fits v n told.late) told.sum_above told.same

  own_term : Counted (series v (suc n)).g
  own_term = counted (series v (suc n)).g (term_fits v n) told.term

  abbrev Still : Series → Type 0
  Still = Rest (series v n).sum own_term.count

  next : (k : ℕ) (p : Series) → late_round ≤ k → k < terms → Still p → Still (next_term v k p)
  unfolding series next_term
  next k p l m z =
      let o = own_term in
      let d = decimal (2 * k + 3) 1 in
      let few = least_most o.count (2 ^ 1074) (series v (suc n)).g told.term o.least told.term_most in
      let t = shrinks o.count p.g (factor v) d o.short few
      z.clear z.most told.factor told.factor_most (whole_clear (2 * k + 3) (omega arith)) (divisor_least k l) in
      record {
        sum_is = rw z.sum_is
            (absorbs o.count (series v n).sum (series v (suc n)).g (p.g ⊗ factor v ⊘ d) (above_of_lt (series v n).sum told.sum_above)
            (sum_fits v n told.late) told.term o.least t.0 t.1 kept);
        clear = t.0;
        most = t.1;
      }

  rest : (m : ℕ) → n < m → m ≤ terms → Still (series v m)
  unfolding series
  rest zero a b = absurd (lt_irrefl 0 (omega arith))
  rest (suc k) a b =
      elim (eq-or-lt_of_le (le_of_suc-le-suc a)) [
        | inl e ↦ subst (λ (z : ℕ). Still (series v (suc z))) e (record { sum_is = kept; clear = told.term; most = own_term.most })
        | inr q ↦ next k (series v k) (le_trans told.late (le_of_lt q)) b (rest k q (le_of_lt b))
      ]

  settled_last : n < terms → (series v (suc n)).sum ≡ (series v terms).sum
  settled_last l = kept ∙ sym (rest terms l (le_refl terms)).sum_is

-- ---- a round as the code makes it, from what g and the sum are after n rounds
module _ (v g s : Float) (n : ℕ) (p : g ≡ (series v n).g) (q : s ≡ (series v n).sum) where
  abbrev term : Float
  term = g ⊗ factor v ⊘ decimal (2 * n + 3) 1

  pub next_term_lem : term ≡ (series v (n + 1)).g
  unfolding series next_term
  next_term_lem = rw (add-one, p)

  pub next_sum : s ⊕ term ≡ (series v (n + 1)).sum
  unfolding series next_term
  next_sum = rw (add-one, p, q)

  pub last_sum : {t : Bool} → n < terms → t ≡ settled n (factor v) term s (s ⊕ term) → t ≡ true → s ⊕ term ≡ (series v terms).sum
  last_sum l e h =
      let a : term ≡ (series v (suc n)).g = rw add-one at next_term_lem in
      let b : s ⊕ term ≡ (series v (suc n)).sum = rw add-one at next_sum in
      b ∙ settled_last v n (rw (e, b, a, q) at h) l
