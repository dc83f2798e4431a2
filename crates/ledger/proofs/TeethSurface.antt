-- The claim leaves no entry of a built surface open: two sets of buffers that meet it are the same. Cells that echo the first, a right-first neighbour or a
-- write outside the surface therefore do not meet it. Assumes nothing.
use mathlib.Core.Path.{◌≡◌, sym, ap, ◌∙◌}
use Prim.Native.Nat.{ℕ, ◌+◌, ◌*◌, ◌/◌, ◌%◌, ◌≤◌, ◌<◌}
use native.Mathlib.Nat.{div-add-mod, mod-lt}
use native.Mathlib.Omega.{arith}
use mathlib.Core.List.{List, ◌++◌}
use lib.Dec.{ltb, lit<}
use lib.ListN.{length, take, drop, get_or, take-append-drop}
use lib.Seq.{ext_get_or}
use borrow.Author.Tests.{ltb-true, ltb-false}
use lib.Ieee.{nan}
use Rattle.grid.specs.Layout.{cell_at}
use Rattle.chart.specs.Quotes.{Quote}
use Rattle.chart.specs.Cells.{axes, mean}
use Rattle.floats.proofs.Tests.{split}
use Rattle.ledger.specs.Build.{Buffers}
use Rattle.ledger.specs.Claim.{Neighbour, left, right, height, width, count_at, SurfaceClaim}

-- ---- a column has one neighbour, and where a counted column stands to the left that is on the left
pub left_first : (c : ℕ → ℕ) (w j k b : ℕ) → b < j → 0 < c b → Neighbour c w j k → k < j
left_first c w j k b h p (left l q z) = l
left_first c w j k b h p (right z l m q y) = absurd (omega (arith, z b h))

neighbour_unique : (c : ℕ → ℕ) (w j k m : ℕ) → Neighbour c w j k → Neighbour c w j m → k ≡ m
neighbour_unique c w j k m (left a p z) (left b q y) =
    split (ltb k m)
    (λ t. absurd (omega (arith, z m (ltb-true k m t) b)))
    (λ t. split (ltb m k) (λ u. absurd (omega (arith, y k (ltb-true m k u) a))) (λ u. omega (arith, ltb-false k m t, ltb-false m k u)))
neighbour_unique c w j k m (left a p z) (right y b v q x) = absurd (omega (arith, y k a))
neighbour_unique c w j k m (right z a u p y) (left b q x) = absurd (omega (arith, z m b))
neighbour_unique c w j k m (right z a u p y) (right x b v q r) =
    split (ltb k m)
    (λ t. absurd (omega (arith, r k a (ltb-true k m t))))
    (λ t. split (ltb m k) (λ s. absurd (omega (arith, y m b (ltb-true m k s)))) (λ s. omega (arith, ltb-false k m t, ltb-false m k s)))

-- ---- a list by its front and its rest
pub two_parts : {X : Type 0} (n : ℕ) (xs ys : List X) → take n xs ≡ take n ys → drop n xs ≡ drop n ys → xs ≡ ys
two_parts n xs ys p q = sym (take-append-drop n xs) ∙ (λ i. p i ++ q i) ∙ take-append-drop n ys

-- ---- a table by its cells and its rest
by_cells : {X : Type 0} (d : X) (height width : ℕ) (xs ys : List X) → width ≤ 64 → length xs ≡ length ys
    → ((i j : ℕ) → i < height → j < width → get_or xs (cell_at i j) d ≡ get_or ys (cell_at i j) d)
    → ((n : ℕ) → ((i j : ℕ) → i < height → j < width → n ≡ cell_at i j → ⊥) → get_or xs n d ≡ get_or ys n d) → xs ≡ ys
by_cells d height width xs ys narrow same cells rest = ext_get_or d xs ys same (λ n h. at n)
  where
    at : (n : ℕ) → get_or xs n d ≡ get_or ys n d
    at n =
        let i = n / 64 in
        let j = n % 64 in
        let e : 64 * i + j ≡ n = div-add-mod n 64 in
        let l : j < 64 = mod-lt n (lit< tt) in
        split (ltb i height)
        (λ t. split (ltb j width)
        (λ u. ap (λ (p : ℕ). get_or xs p d) (sym e) ∙ cells i j (ltb-true i height t) (ltb-true j width u) ∙ ap (λ (p : ℕ). get_or ys p d) e)
        (λ u. rest n (λ a b p q r. let f = ltb-false j width u in omega arith)))
        (λ t. rest n (λ a b p q r. let f = ltb-false i height t in omega arith))

module _ (qs : List Quote) (s x y : Buffers) (narrow : width qs s ≤ 64) (p : SurfaceClaim qs s x) (q : SurfaceClaim qs s y) where
  same_cell : (i j : ℕ) → i < height qs s → j < width qs s → get_or x.grid (cell_at i j) nan ≡ get_or y.grid (cell_at i j) nan
  same_cell i j a b =
      split (ltb 0 (count_at qs s i j))
      (λ t. let c = ltb-true 0 (count_at qs s i j) t in p.means i j a b c ∙ sym (q.means i j a b c))
      (λ t.
      let z : count_at qs s i j ≡ 0 = omega (arith, ltb-false 0 (count_at qs s i j) t) in
      let m = p.neighbours i j a b z in
      let n = q.neighbours i j a b z in
      m.2 ∙ ap (λ (k : ℕ). mean (axes qs) i k qs) (neighbour_unique _ _ j m.0 n.0 m.1 n.1) ∙ sym n.2)

  pub surface_fixed : x ≡ y
  surface_fixed = λ i. record {
    strikes = two_parts (width qs s) x.strikes y.strikes (p.strikes ∙ sym q.strikes) (p.rest_strikes ∙ sym q.rest_strikes) i;
    expiries = two_parts (height qs s) x.expiries y.expiries (p.expiries ∙ sym q.expiries) (p.rest_expiries ∙ sym q.rest_expiries) i;
    grid = by_cells nan (height qs s) (width qs s) x.grid y.grid narrow (p.same_lengths.0 ∙ sym q.same_lengths.0) same_cell
        (λ n o. p.rest_grid n o ∙ sym (q.rest_grid n o)) i;
    counts = by_cells 0 (height qs s) (width qs s) x.counts y.counts narrow (p.same_lengths.1 ∙ sym q.same_lengths.1)
        (λ i j a b. p.counts i j a b ∙ sym (q.counts i j a b)) (λ n o. p.rest_counts n o ∙ sym (q.rest_counts n o)) i;
  }
