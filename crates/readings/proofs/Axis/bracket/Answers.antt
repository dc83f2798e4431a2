-- `readings::Axis::bracket`: the case that its tests chose. Assumes nothing.
use Rattle.grid.proofs.Axes.{axis_long}
use Rattle.grid.proofs.ReadCases.{bracket_first, bracket_last, bracket_between}
use Rattle.floats.proofs.Tests.{or_true}
use lib.Dec.{eqb}
use borrow.Author.Tests.{le-leb, lt-leb, eq-eqb, ne_eqb}
use Prim.Native.Nat.{◌<◌}
use mathlib.Core.Path.{◌≡◌, refl}
use mathlib.Core.Bool.{true, false, ◌||◌}
use lib.ListN.{length}
use lib.Ieee.{of_bits, round}
use native.Mathlib.Omega.{arith}
use Rattle.readings.proofs.Axis.bracket.Goals as goal
use Rattle.readings.proofs.Axis.bracket.Goals.{then-n-eq1-via-then-n-eq1, then-n-eq1-via-else-n-eq1+then-pos-eq0}

pub returns-then-n-eq1 : goal.returns-then-n-eq1
unfolding of_bits round
returns-then-n-eq1 c =
    let some : 0 < length c.args.self.now.values.now = axis_long _ c.args.self.now.rises in
    let P = c.first_above-pos in
    let first : (eqb (length c.args.self.now.values.now) 1 || eqb P.result 0) ≡ true =
    elim c.then-n-eq1.branch [
      | then-n-eq1-via-then-n-eq1 w ↦ rw (eq-eqb _ _ w.if-n-eq1.true)
      | then-n-eq1-via-else-n-eq1+then-pos-eq0 w ↦ rw (eq-eqb _ _ w.if-pos-eq0.true, or_true (eqb (length c.args.self.now.values.now) 1))
    ] in
    record { value = bracket_first _ _ _ c.args.x refl P.ensures first; within = (some, some) }

pub returns-then-n-pos : goal.returns-then-n-pos
unfolding of_bits round
returns-then-n-pos c =
    let some : 0 < length c.args.self.now.values.now = axis_long _ c.args.self.now.rises in
    let P = c.first_above-pos in
    let later : (eqb (length c.args.self.now.values.now) 1 || eqb P.result 0) ≡ false = rw (ne_eqb _ _ c.if-n-eq1.false, ne_eqb _ _ c.if-pos-eq0.false) in
    record {
      value = bracket_last _ _ _ c.args.x refl P.ensures later (le-leb _ _ c.if-n-pos.true);
      within = (omega arith, omega arith);
    }

pub returns : goal.returns
returns c =
    let P = c.first_above-pos in
    let later : (eqb (length c.args.self.now.values.now) 1 || eqb P.result 0) ≡ false = rw (ne_eqb _ _ c.if-n-eq1.false, ne_eqb _ _ c.if-pos-eq0.false) in
    record {
      value = bracket_between _ _ _ c.args.x refl P.ensures _ later (lt-leb _ _ c.if-n-pos.false) c.fraction.ensures;
      within = (omega arith, omega arith);
    }
