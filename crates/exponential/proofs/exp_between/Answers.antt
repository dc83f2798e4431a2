-- `exponential::exp_between`: v × 1.4426950408889634 + 0.5 is in range (Scaled), so that floor and powers are defined. Assumes nothing.
use Rattle.std.proofs.Common.{◌≡◌, ◌<◌, false, T, ℤ, pos, ◌+ℤ◌, sym, ap, ◌∙◌, subst, arith, w64, to_z, of_z}
use lib.Signed.{mag}
use lib.Ieee.{Float, is_nan}
use Rattle.floats.specs.Operators.{◌≺◌}
use Rattle.floats.proofs.Tests.{holds}
use Rattle.elementary.specs.Exp.{scaled, sum_at, floor, overflow_limit, underflow_limit}
use Rattle.elementary.specs.Steps.{Small, in_exponent}
use Rattle.elementary.proofs.Reciprocals.{sum_E}
use Rattle.elementary.proofs.Floors.{few_in_float}
use Rattle.elementary.proofs.Positive.{far_exponent}
use Rattle.elementary.proofs.Laws.{exp_normal, exp_subnormal}
use Rattle.elementary.proofs.Scaled.{in_range, range_small, range_exponent, k_normal}
use Rattle.exponential.proofs.Definitions.{opened}
use Rattle.exponential.proofs.Words.{few, plus_fits, back, plus_back}
use Rattle.exponential.proofs.exp_between.Goals as goal

-- k, as the machine has it
module _ (v : Float) (n : is_nan v ≡ false) (h : overflow_limit ≺ v ≡ false) (l : v ≺ underflow_limit ≡ false) where
  small : Small (scaled v)
  small = range_small _ (in_range v n h l)

  abbrev k : ℤ
  k = floor (scaled v)

  k_few : mag k < 4096
  k_few = let f = few 1075 k (range_exponent 1075 _ (in_range v n h l)) in omega arith

  module _ (z : ℤ) (e : z ≡ k) where
    k_back : to_z w64 (of_z w64 z) ≡ k
    k_back = let f = k_few in back z k e (omega arith)

    far_back : to_z w64 (of_z w64 (to_z w64 (of_z w64 z) +ℤ pos 200)) ≡ k +ℤ pos 200
    far_back = let f = k_few in plus_back z k e (omega arith) (pos 200) (omega arith)

pub floor-k-requires : goal.floor-k-requires
unfolding opened
floor-k-requires c = small c.args.v c.requires.number c.requires.high c.requires.low

pub int_to_float-f : goal.int_to_float-f
unfolding opened
int_to_float-f c =
    let v = c.args.v in
    let r = c.requires in
    let f = k_few v r.number r.high r.low in
    rw (k_back v r.number r.high r.low _ c.floor-k.ensures) (few_in_float (floor (scaled v)) (omega arith))

pub overflow_add-k : goal.overflow_add-k
unfolding opened
overflow_add-k c =
    let v = c.args.v in
    let r = c.requires in
    let f = k_few v r.number r.high r.low in
    rw (k_back v r.number r.high r.low _ c.floor-k.ensures) (plus_fits (floor (scaled v)) (pos 200) (omega arith) (omega arith))

pub two_to-requires : goal.two_to-requires
unfolding opened
two_to-requires c =
    let r = c.requires in
    subst (λ (z : ℤ). T (in_exponent z)) (sym (far_back c.args.v r.number r.high r.low _ c.floor-k.ensures))
    (far_exponent c.args.v (holds _ c.well_formed.0.1) r.number r.high r.low c.if-v.true)

pub two_to-requires-else-v : goal.two_to-requires-else-v
unfolding opened
two_to-requires-else-v c =
    let r = c.requires in
    rw (k_back c.args.v r.number r.high r.low _ c.floor-k.ensures) (k_normal c.args.v r.number r.high c.if-v.false)

pub returns-then-v : goal.returns-then-v
unfolding opened
returns-then-v c =
    let v = c.args.v in
    let r = c.requires in
    let p = c.horner-p.ensures ∙ sum_E _ c.table_e.ensures _ ∙ ap (sum_at v) (k_back v r.number r.high r.low _ c.floor-k.ensures) in
    rw (p, c.two_to.ensures, c.two_to-then-v.ensures, far_back v r.number r.high r.low _ c.floor-k.ensures) (sym (exp_subnormal v c.if-v.true r.low))

pub returns-else-v : goal.returns-else-v
unfolding opened
returns-else-v c =
    let v = c.args.v in
    let r = c.requires in
    let b = k_back v r.number r.high r.low _ c.floor-k.ensures in
    let p = c.horner-p.ensures ∙ sum_E _ c.table_e.ensures _ ∙ ap (sum_at v) b in
    rw (p, c.two_to-else-v.ensures, b) (sym (exp_normal v r.number r.high c.if-v.false))
