use Rattle.std.proofs.Common.{◌≡◌, ℕ, suc, ◌-◌, ◌≤◌, refl, arith}
use lib.Ieee.{Float}
use Rattle.floats.specs.Operators.{decimal, ◌⊕◌, ◌⊘◌}
use Rattle.gauss.specs.Erfc.{fraction, levels}
use Rattle.normal.proofs.Definitions.{opened}
use Rattle.normal.proofs.fraction_pair.Goals as goal

next : (v c : Float) (j : ℕ) → 1 ≤ j → j ≤ 60 → c ≡ fraction v (levels - j) → v ⊕ decimal j 1 ⊘ decimal 2 1 ⊘ c ≡ fraction v (levels - (j - 1))
unfolding fraction
next v c j h l e =
    let s : 60 - (j - 1) ≡ suc (60 - j) = omega arith in
    let k : 60 - (60 - j) ≡ j = omega arith in
    rw s (simp (k, e))

pub loop-j-init : goal.loop-j-init
unfolding fraction
loop-j-init c = (refl, refl)

pub loop-j-preserved : goal.loop-j-preserved
unfolding opened
loop-j-preserved c =
    let v = c.args.v in
    let l = c.loop-j in
    (next v.first l.c l.j (omega arith) (omega arith) l.invariant.0, next v.second l.d l.j (omega arith) (omega arith) l.invariant.1)
