-- `readings::Axis::first_above`: on an axis the values that are at most x stand before the others. Assumes nothing.
use mathlib.Core.Path.{ap}
use mathlib.Core.Bool.{not}
use Rattle.std.proofs.Common.{rules}
use Rattle.std.proofs.lemmas.List.Sorted.{IsPartitionPoint-from_clause}
use Rattle.floats.specs.Operators.{◌≼◌}
use Rattle.grid.specs.Readings.{above}
use Rattle.grid.proofs.Parted.{axis_parted, first_at}
use Rattle.readings.proofs.Axis.first_above.Goals as goal

pub returns : goal.returns
returns c =
    let A = c.args.self.now in
    let P = c.partition_point.ensures in
    first_at (above c.args.x) (λ v. v ≼ c.args.x) (λ v t. ap not t) (λ v f. ap not f) A.values.now _ P.bound
    (IsPartitionPoint-from_clause (λ v. v ≼ c.args.x) _ _ P.partitioned (axis_parted c.args.x A.values.now A.rises) (λ a r q k. search rules))
