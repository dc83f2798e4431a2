-- Whether a place of a grid is a cell in use. Assumes nothing.
use Prim.Native.Nat.{ℕ, ◌/◌, ◌%◌, ◌≤◌, ◌<◌}
use mathlib.Core.Path.{◌≡◌}
use native.Mathlib.Omega.{arith}
use lib.Dec.{ltb}
use borrow.Author.Tests.{ltb-true, ltb-false}
use Rattle.floats.proofs.Tests.{split}
use Rattle.grid.specs.Layout.{cell_at}

pub data Place (rows columns p : ℕ) : Type 0 where
  used : (i j : ℕ) → i < rows → j < columns → cell_at i j ≡ p → Place rows columns p
  unused : ((i j : ℕ) → i < rows → j < columns → cell_at i j ≡ p → ⊥) → Place rows columns p

pub place : (rows columns p : ℕ) → columns ≤ 64 → Place rows columns p
place rows columns p narrow =
    let i = p / 64 in
    let j = p % 64 in
    split (ltb i rows)
    (λ u.
    split (ltb j columns)
    (λ w. used i j (ltb-true i rows u) (ltb-true j columns w) (omega arith))
    (λ w. let m = ltb-false j columns w in unused (λ a b c d f. omega arith)))
    (λ u. let m = ltb-false i rows u in unused (λ a b c d f. omega arith))
