-- What a table holds at each place: f i j at 64 × i + j, and elsewhere what was there. Assumes nothing.
use Prim.Native.Nat.{ℕ, zero, suc, ◌+◌, ◌-◌, ◌*◌, ◌≤◌, ◌<◌}
use mathlib.Core.Path.{◌≡◌, refl, ◌∙◌, ap}
use mathlib.Core.List.{List}
use mathlib.Core.Logic.{inl, inr}
use native.Mathlib.Nat.{eq-or-lt_of_le, le_of_suc-le-suc}
use native.Mathlib.Omega.{arith}
use lib.Dec.{ltb}
use lib.ListN.{length, get_or}
use borrow.Author.Tests.{ltb-true, ltb-false}
use Rattle.grid.specs.Layout.{cell_at, values, partly}
use Rattle.grid.proofs.Values.{length_values, get_d_values}
use Rattle.grid.proofs.Parts.{put_length, put_before, put_here, put_after}
use Rattle.chart.specs.Build.{table}
use Rattle.floats.proofs.Tests.{split}

module _ {X : Type 0} (f : ℕ → ℕ → X) (columns : ℕ) (few : columns ≤ 64) (was : List X) where
  pub table_length : (rows : ℕ) → 64 * rows ≤ length was → length (table rows columns f was) ≡ length was
  unfolding table partly
  table_length zero h = refl
  table_length (suc i) h =
      let r = table_length i (omega arith) in
      put_length (table i columns f was) (values (f i) columns 0) (64 * i + 0) columns (omega (arith, r)) (length_values (f i) columns 0) ∙ r

  -- the cell of row i and column j
  pub table_at : (rows i j : ℕ) (d : X) → 64 * rows ≤ length was → i < rows → j < columns → get_or (table rows columns f was) (cell_at i j) d ≡ f i j
  unfolding table partly
  table_at zero i j d h k l = absurd (omega arith)
  table_at (suc r) i j d h k l =
      let s = table_length r (omega arith) in
      let t = table r columns f was in
      let row = values (f r) columns 0 in
      let sized = length_values (f r) columns 0 in
      elim (eq-or-lt_of_le (le_of_suc-le-suc k)) [
        | inl e ↦
            let p : cell_at i j ≡ 64 * r + 0 + j = omega arith in
            rw (p, e)
            (put_here t row (64 * r + 0) columns (omega (arith, s)) sized d j l ∙ get_d_values (f r) columns 0 j d l ∙ ap (f r) (omega arith))
        | inr m ↦
            put_before t row (64 * r + 0) columns (omega (arith, s)) sized d (cell_at i j) (omega arith) ∙ table_at r i j d (omega arith) m l
      ]

  -- a place that is no cell
  pub table_else : (rows p : ℕ) (d : X) → 64 * rows ≤ length was → ((i j : ℕ) → i < rows → j < columns → cell_at i j ≡ p → ⊥)
      → get_or (table rows columns f was) p d ≡ get_or was p d
  unfolding table partly
  table_else zero p d h out = refl
  table_else (suc r) p d h out =
      let s = table_length r (omega arith) in
      let t = table r columns f was in
      let row = values (f r) columns 0 in
      let sized = length_values (f r) columns 0 in
      let rest = table_else r p d (omega arith) (λ i j a b e. out i j (omega arith) b e) in
      split (ltb p (64 * r + 0))
      (λ u. put_before t row (64 * r + 0) columns (omega (arith, s)) sized d p (ltb-true p (64 * r + 0) u) ∙ rest)
      (λ u.
      let b = ltb-false p (64 * r + 0) u in
      split (ltb p (64 * r + columns))
      (λ w. let c = ltb-true p (64 * r + columns) w in absurd (out r (p - 64 * r) (omega arith) (omega arith) (omega arith)))
      (λ w.
      let c = ltb-false p (64 * r + columns) w in
      put_after t row (64 * r + 0) columns (omega (arith, s)) sized d p (omega arith) ∙ rest))
