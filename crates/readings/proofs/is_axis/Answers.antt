-- `readings::is_axis`: a first value that is finite, and each rises from the one before. Assumes nothing.
use mathlib.Core.Path.{◌≡◌, sym}
use mathlib.Core.Bool.{true}
use Prim.Native.Nat.{◌<◌}
use native.Mathlib.Omega.{arith}
use lib.ListN.{length, get_or}
use lib.Ieee.{nan}
use Rattle.std.proofs.Common.{rules}
use Rattle.std.proofs.lemmas.List.Sorted.{answers_always}
use Rattle.floats.specs.Values.{finite}
use Rattle.grid.proofs.Ascent.{axis_sorted, rises}
use Rattle.readings.proofs.is_axis.Goals as goal

pub returns-then-is_finite : goal.returns-then-is_finite
returns-then-is_finite c =
    let I = c.in-Some.ensures.item in
    let some : 0 < length c.args.axis.now = omega (arith, I) in
    let first : finite (get_or c.args.axis.now 0 nan) ≡ true = (rw (I.3.1 nan, c.if-is_finite.true) at (sym c.is_finite.ensures)) in
    axis_sorted _ _ some first (c.is_sorted_by.ensures.cases rises (answers_always _ _ _ (λ f a r g h. search rules)))
