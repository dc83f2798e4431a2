-- The neighbour rule by counts is what the gap filler's sweeps make of the means, where nothing counted is a gap. Assumes nothing.
use Prim.Native.Nat.{ℕ, ◌-◌, ◌≤◌, ◌<◌}
use mathlib.Core.Path.{◌≡◌, sym, ◌∙◌}
use mathlib.Core.Bool.{true, false}
use mathlib.Core.List.{List}
use mathlib.Core.Option.{Option, none, some}
use native.Mathlib.Omega.{arith}
use lib.Dec.{ltb}
use lib.ListN.{length, get_or}
use lib.Seq.{ext_get_or}
use lib.Ieee.{Float, nan, is_nan}
use borrow.Author.Tests.{ltb-true, ltb-false, lt-ltb, le-ltb}
use Rattle.floats.proofs.Tests.{split, clash}
use Rattle.grid.specs.Layout.{cell_at}
use Rattle.grid.proofs.Places.{Place, used, unused, place}
use Rattle.gaps.specs.Gaps.{gaps_filled}
use Rattle.gaps.specs.Filler.{Takes, Filler}
use Rattle.gaps.proofs.Sweeps.{nan_gap, takes_own, takes_same}
use Rattle.gaps.proofs.Laws.{after_all}
use Rattle.chart.specs.Quotes.{Quote}
use Rattle.chart.specs.Cells.{Axes, count, mean, cell, leftward, rightward, either, source}
use Rattle.chart.specs.Meaning.{source_in, mean_or_gap, grid_of}
use Rattle.chart.proofs.Neighbour.{Left, Right, left_is, right_is}
use Rattle.chart.proofs.Layouts.{table_length, table_at, table_else}

-- ---- the source of a column is the place that it takes its value from
module _ (c : ℕ → ℕ) (v : ℕ → Float) (w : ℕ) (counted : (l : ℕ) → 0 < c l → is_nan (v l) ≡ false) (uncounted : (l : ℕ) → c l ≡ 0 → is_nan (v l) ≡ true) where
  pick_takes : (j b : ℕ) (l r : Option ℕ) → j < w → b < w → 0 < c b → c j ≡ 0 → Left c j l → Right c j w r → Takes v w j (either l r)
  pick_takes j b (some k) r h g p z a d =
      record {
        inside = omega (arith, a.0);
        value = counted k a.1;
        before = λ l m n. uncounted l (split (ltb l j) (λ t. a.2 l m (ltb-true l j t)) (λ t. let e : l ≡ j = omega (arith, ltb-false l j t) in rw e z));
        after = λ m. absurd (omega (arith, a.0));
      }
  pick_takes j b none (some k) h g p z a d =
      record {
        inside = d.1;
        value = counted k d.2;
        before = λ l m n. absurd (omega (arith, d.0));
        after = λ m l n. uncounted l (split (ltb l j) (λ t. a l (ltb-true l j t)) (λ t. d.3 l (ltb-false l j t) n));
      }
  pick_takes j b none none h g p z a d =
      let e : c b ≡ 0 = split (ltb b j) (λ t. a b (ltb-true b j t)) (λ t. d b (ltb-false b j t) g) in
      absurd (omega arith)

  source_takes : (j b : ℕ) → j < w → b < w → 0 < c b → Takes v w j (source c w j)
  unfolding source
  source_takes j b h g p =
      split (ltb 0 (c j))
      (λ t. rw t (takes_own v w j h (counted j (ltb-true 0 (c j) t))))
      (λ t. rw t
      (pick_takes j b (leftward c j) (rightward c j (w - j)) h g p (omega (arith, ltb-false 0 (c j) t)) (left_is c j) (right_is c j (w - j) w (omega arith))))

-- ---- the grid
module _ (x : Axes) (qs : List Quote) (was : List Float) (narrow : length x.strikes ≤ 64) (low : length x.expiries ≤ 32) (long : 2048 ≤ length was)
    (busy : (i : ℕ) → i < length x.expiries → (b : ℕ) × (b < length x.strikes) × (0 < count x i b qs))
    (number : (i j : ℕ) → 0 < count x i j qs → is_nan (mean x i j qs) ≡ false) where
  abbrev rows : ℕ
  rows = length x.expiries

  abbrev columns : ℕ
  columns = length x.strikes

  -- a counted mean is a value, and nothing counted a gap
  mean_there : (i j : ℕ) → 0 < count x i j qs → mean_or_gap x qs i j ≡ mean x i j qs
  unfolding mean_or_gap
  mean_there i j h = rw (lt-ltb 0 (count x i j qs) h)

  gap_there : (i j : ℕ) → count x i j qs ≡ 0 → is_nan (mean_or_gap x qs i j) ≡ true
  unfolding mean_or_gap
  gap_there i j h = rw (le-ltb 0 (count x i j qs) (omega arith)) nan_gap

  -- so what has a value is counted
  held : (i j : ℕ) → is_nan (mean_or_gap x qs i j) ≡ false → 0 < count x i j qs
  held i j e =
      split (ltb 0 (count x i j qs))
      (λ t. ltb-true 0 (count x i j qs) t)
      (λ t. clash (gap_there i j (omega (arith, ltb-false 0 (count x i j qs) t))) e)

  takes : (i j : ℕ) → i < rows → j < columns → Takes (mean_or_gap x qs i) columns j (source_in x qs i j)
  takes i j h m =
      let b = busy i h in
      source_takes (λ l. count x i l qs) (mean_or_gap x qs i) columns (λ l p. rw (mean_there i l p) (number i l p)) (gap_there i) j b.0 m b.1 b.2

  -- the means with gaps, and what the filler makes of them
  abbrev gapped : List Float
  gapped = grid_of x (mean_or_gap x qs) was

  abbrev filled : List Float
  filled = gaps_filled columns rows gapped

  sized : length gapped ≡ length was
  sized = table_length (mean_or_gap x qs) columns narrow was rows (omega arith)

  law : Filler columns rows gapped filled
  law = after_all columns rows gapped narrow low (rw sized long)

  gapped_at : (i j : ℕ) → i < rows → j < columns → get_or gapped (cell_at i j) nan ≡ mean_or_gap x qs i j
  gapped_at i j h m = table_at (mean_or_gap x qs) columns narrow was rows i j nan (omega arith) h m

  filled_at : (i j : ℕ) → i < rows → j < columns → get_or filled (cell_at i j) nan ≡ cell x qs i j
  unfolding cell
  filled_at i j h m =
      let k = source_in x qs i j in
      let t = takes i j h m in
      let s = takes_same (mean_or_gap x qs i) (λ l. get_or gapped (cell_at i l) nan) columns j k (λ l p. sym (gapped_at i l h p)) m t in
      (law.fills narrow low (rw sized long)).own_row i j k h m s ∙ gapped_at i k h t.inside ∙ mean_there i k (held i k t.value)

  pub by_sweeps : filled ≡ grid_of x (cell x qs) was
  by_sweeps =
      ext_get_or nan filled (grid_of x (cell x qs) was)
      (law.sized ∙ sized ∙ sym (table_length (cell x qs) columns narrow was rows (omega arith)))
      (λ p h. from p (place rows columns p narrow))
    where
      from : (p : ℕ) → Place rows columns p → get_or filled p nan ≡ get_or (grid_of x (cell x qs) was) p nan
      from p (used i j h m e) = rw (← e) (filled_at i j h m ∙ sym (table_at (cell x qs) columns narrow was rows i j nan (omega arith) h m))
      from p (unused out) =
          law.elsewhere p out ∙ table_else (mean_or_gap x qs) columns narrow was rows p nan (omega arith) out
          ∙ sym (table_else (cell x qs) columns narrow was rows p nan (omega arith) out)
