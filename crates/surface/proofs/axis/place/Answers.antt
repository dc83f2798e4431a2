-- `surface::axis::place`: the first value that takes x or is above it (`reach_rises`), which takes x (`place_by_halves`). Assumes nothing.
use Rattle.std.proofs.Common.{rules}
use Rattle.std.proofs.lemmas.List.Sorted.{IsPartitionPoint-from_clause}
use mathlib.Core.Bool.{not}
use mathlib.Core.Path.{◌∙◌}
use Rattle.chart.specs.Steps.{reaches}
use Rattle.chart.proofs.Halves.{reach_rises, place_by_halves}
use Rattle.surface.proofs.Halving.{parted, first_is}
use Rattle.surface.proofs.axis.place.Goals as goal

pub returns : goal.returns
returns c =
    let A = c.args in
    let ys = A.axis.now in
    let P = IsPartitionPoint-from_clause (λ a. not (reaches a A.x)) ys _ c.partition_point.ensures.partitioned
    (parted (λ a. reaches a A.x) ys (reach_rises A.x c.requires.above_zero ys c.requires.ascends)) (λ a r f h. search rules) in
    first_is (λ a. reaches a A.x) ys _ c.partition_point.ensures.bound P ∙ place_by_halves ys A.x c.requires
