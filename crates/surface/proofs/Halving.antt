-- What `partition_point` gives is the first value that passes a test, where each after one that passes passes too. Assumes nothing.
use Rattle.std.specs.List.Sorted.{IsPartitionPoint, IsPartitionedBy}
use Prim.Native.Nat.{ℕ, ◌≤◌}
use mathlib.Core.Path.{◌≡◌}
use mathlib.Core.Bool.{Bool, true, false, not}
use mathlib.Core.List.{List}
use native.Mathlib.Omega.{arith}
use borrow.Author.Tests.{not-true, not-false}
use lib.ListN.{length, get_or}
use lib.Ieee.{Float}
use Rattle.grid.specs.Search.{first_where, Rising}
use Rattle.grid.proofs.First.{first_before, first_past}
use Rattle.grid.proofs.Parted.{first_at}

module _ (test : Float → Bool) (ys : List Float) where
  pub parted : Rising test ys → IsPartitionedBy (λ y. not (test y)) ys
  parted r i j d m h e =
      let b = first_past test ys j d r h (not-true (test (get_or ys j d)) e) in
      rw (first_before test ys i d (omega arith))

  pub first_is : (i : ℕ) → i ≤ length ys → IsPartitionPoint (λ y. not (test y) ≡ true) (λ y. not (test y) ≡ false) ys i → i ≡ first_where test ys
  first_is = first_at test (λ y. not (test y)) (λ y. not-true (test y)) (λ y. not-false (test y)) ys
