-- `put_in_order`: what std's sort leaves in order is the definition's sort (`is_sort`). Assumes nothing.
use Rattle.std.proofs.Common.{rules}
use Rattle.std.proofs.lemmas.List.Sorted.{answers_always}
use Rattle.std.proofs.lemmas.List.Sorted.{IsPermutation-sym, All-permutation}
use lib.Dec.{T}
use lib.Ieee.Positive.{positive}
use Rattle.surface.proofs.Sorting.{Fine, fine_of, is_sort}
use Rattle.surface.proofs.axis.put_in_order.Goals as goal

pub returns : goal.returns
returns c =
    let xs = c.args.values.now in
    let S = c.sort_unstable_by_key in
    let up = S.ensures.sorted (λ x. record { 0 = x }) (answers_always _ _ _ (λ f a r f' w. search rules)) in
    let ys = S.new.self in
    let m = S.ensures.permutation in
    let fine = fine_of ys (All-permutation (λ x. T (positive x)) xs ys m c.requires) c.type_inv.values in
    is_sort xs ys (All-permutation Fine ys xs (IsPermutation-sym xs ys m) fine) m up
