use Rattle.std.proofs.Common.{◌≡◌, ℕ, ◌+◌, ◌*◌, ◌<◌, Bool, true, refl, ap, ◌∙◌, arith}
use lib.Ieee.{Float}
use Rattle.floats.specs.Operators.{decimal, ◌⊕◌, ◌⊗◌, ◌⊘◌}
use Rattle.gauss.specs.Erfc.{series, terms}
use Rattle.gauss.specs.Steps.{settled}
use Rattle.gauss.proofs.Later.{next_term_lem, next_sum, last_sum}
use Rattle.normal.proofs.Definitions.{opened}
use Rattle.normal.specs.declared.Series.{Series}
use Rattle.normal.specs.Pairs.{summed}
use Rattle.normal.proofs.series_pair.Goals as goal

abbrev stepped : Series → Float → Series
stepped s d = record { w = s.w; g = s.g ⊗ s.w ⊘ d; sum = s.sum ⊕ s.g ⊗ s.w ⊘ d }

module _ (v : Float) (n : ℕ) (s t : Series) (e : s ≡ summed v n) (f : t ≡ stepped s (decimal (2 * n + 3) 1)) where
  one_more : t ≡ stepped (summed v n) (decimal (2 * n + 3) 1)
  one_more = f ∙ ap (λ (s : Series). stepped s (decimal (2 * n + 3) 1)) e

  next : t ≡ summed v (n + 1)
  next =
      let a = next_term_lem v (series v n).g (series v n).sum n refl refl in
      let b = next_sum v (series v n).g (series v n).sum n refl refl in
      one_more ∙ cc

  last : {b : Bool} → n < terms → b ≡ settled n t.w t.g s.sum t.sum → b ≡ true → t.sum ≡ (series v terms).sum
  last l h k =
      ap (λ (s : Series). s.sum) one_more ∙ last_sum v (series v n).g (series v n).sum n refl refl l (rw (one_more, e) at h) k

pub loop-k-init : goal.loop-k-init
unfolding series
loop-k-init c = (c.new-a.ensures, c.new-b.ensures)

pub returns-then-is_settled-2 : goal.returns-then-is_settled-2
unfolding opened
returns-then-is_settled-2 c =
    let v = c.args.v in
    let l = c.loop-k in
    let early : l.k < 40 = omega arith in
    let p = last v.first l.k l.a _ l.invariant.0 c.step-next_a.ensures early c.is_settled.ensures c.if-is_settled.true in
    let q = last v.second l.k l.b _ l.invariant.1 c.step-next_b.ensures early c.is_settled-then-is_settled.ensures c.if-is_settled-2.true in
    simp (c.new.ensures, p, q)

pub loop-k-preserved : goal.loop-k-preserved
unfolding opened
loop-k-preserved c =
    let v = c.args.v in
    let l = c.loop-k in
    (next v.first l.k l.a _ l.invariant.0 c.step-next_a.ensures, next v.second l.k l.b _ l.invariant.1 c.step-next_b.ensures)
