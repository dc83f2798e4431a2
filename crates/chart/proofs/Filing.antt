-- What the sums and counts hold when k quotes have been filed: with the quotes still to come they make those of all quotes. Assumes nothing.
use Rattle.std.specs.Prelude.{if◌then◌else◌}
use Prim.Native.Nat.{ℕ, suc, zero, ◌+◌, ◌≤◌, ◌<◌}
use mathlib.Core.Path.{◌≡◌, subst}
use mathlib.Core.Bool.{true, false, ◌&&◌}
use mathlib.Core.List.{List, [], ◌∷◌}
use native.Mathlib.Omega.{arith}
use lib.Dec.{eqb}
use lib.ListN.{length, drop, get_or, set, length-set}
use lib.Seq.{get_or-set_same, get_or-set_other}
use lib.Ieee.{Float, nan}
use borrow.Author.Tests.{eqb-true, eq-eqb}
use Rattle.floats.specs.Operators.{decimal, ◌⊕◌}
use Rattle.floats.proofs.Tests.{and_left, and_right, clash, split}
use Rattle.grid.specs.Layout.{cell_at}
use Rattle.chart.specs.Quotes.{Quote, Columns, quotes}
use Rattle.chart.specs.Axis.{place}
use Rattle.chart.specs.Cells.{Axes, counted, added}
use Rattle.chart.specs.Steps.{OnAxis, OnAxes, Blank, Filed}
use Rattle.chart.proofs.Kept.{quotes_at}

-- no cell counts more quotes than there are
pub counted_most : (x : Axes) (i j : ℕ) (qs : List Quote) → length (counted x i j qs) ≤ length qs
unfolding counted
counted_most x i j [] = omega arith
counted_most x i j (q ∷ qs) =
    let r = counted_most x i j qs in
    split (eqb (place x.expiries q.expiry) i && eqb (place x.strikes q.strike) j) (λ t. rw t (omega arith)) (λ t. rw t (omega arith))

placed_drop : (x : Axes) (k : ℕ) (qs : List Quote) → OnAxes x qs → OnAxes x (drop k qs)
placed_drop x zero qs h = h
placed_drop x (suc k) [] h = tt
placed_drop x (suc k) (q ∷ qs) h = placed_drop x k qs h.2

-- the quote at i has its places
pub home_of : (x : Axes) (c : Columns) (n i : ℕ) → i < n → OnAxes x (quotes c n)
    → OnAxis x.expiries (get_or c.expiries i nan) × OnAxis x.strikes (get_or c.strikes i nan)
home_of x c n i h m =
    let q = subst (λ (l : List Quote). OnAxes x l) (quotes_at c n i h) (placed_drop x i (quotes c n) m) in
    (q.0, q.1)

module _ (x : Axes) (qs : List Quote) where
  pub record Filing (sums : List Float) (numbers : List ℕ) (k : ℕ) : Type 0 where
    pub sized : length sums ≡ 2048
    pub numbered : length numbers ≡ 2048
    pub summing : (i j : ℕ) → i < 32 → j < 64 → added (get_or sums (cell_at i j) nan) (counted x i j (drop k qs)) ≡ added (decimal 0 1) (counted x i j qs)
    pub numbering : (i j : ℕ) → i < 32 → j < 64 → get_or numbers (cell_at i j) 0 + length (counted x i j (drop k qs)) ≡ length (counted x i j qs)

  pub file_start : (sums : List Float) (numbers : List ℕ) → Blank sums numbers → Filing sums numbers 0
  file_start sums numbers z =
      record {
        sized = z.cells.0;
        numbered = z.cells.1;
        summing = λ i j a b. rw (z.sum (cell_at i j) (omega arith));
        numbering = λ i j a b. omega (arith, z.number (cell_at i j) (omega arith));
      }

  -- the counts stay small
  pub file_few : (sums : List Float) (numbers : List ℕ) (k i j at : ℕ) → at ≡ cell_at i j → i < 32 → j < 64 → Filing sums numbers k
      → get_or numbers at 0 ≤ length qs
  file_few sums numbers k i j at e a b f = rw e (omega (arith, f.numbering i j a b, counted_most x i j qs))

  module _ (k a b : ℕ) (q : Quote) (e : drop k qs ≡ q ∷ drop (k + 1) qs) (ha : a ≡ place x.expiries q.expiry) (hb : b ≡ place x.strikes q.strike)
      (la : a < 32) (lb : b < 64) where
    next : (i j : ℕ) → counted x i j (drop k qs) ≡ (if eqb a i && eqb b j then q ∷ counted x i j (drop (k + 1) qs) else counted x i j (drop (k + 1) qs))
    unfolding counted
    next i j = rw (e, ha, hb)

    other : (i j : ℕ) → j < 64 → (eqb a i && eqb b j) ≡ false → cell_at i j ≡ cell_at a b → ⊥
    other i j h f p =
        let u : a ≡ i = omega arith in
        let v : b ≡ j = omega arith in
        let t : (eqb a i && eqb b j) ≡ true = rw (eq-eqb a i u, eq-eqb b j v) in
        clash t f

    same : (i j : ℕ) → (eqb a i && eqb b j) ≡ true → cell_at i j ≡ cell_at a b
    same i j t =
        let u : a ≡ i = eqb-true a i (and_left (eqb a i) (eqb b j) t) in
        let v : b ≡ j = eqb-true b j (and_right (eqb a i) (eqb b j) t) in
        omega arith

    file_here : (sums : List Float) (numbers : List ℕ) → Filing sums numbers k
        → Filing (set sums (cell_at a b) (get_or sums (cell_at a b) nan ⊕ q.volatility))
        (set numbers (cell_at a b) (get_or numbers (cell_at a b) 0 + 1)) (k + 1)
    unfolding added
    file_here sums numbers f =
        let at = cell_at a b in
        let s : at < length sums = omega (arith, f.sized) in
        let n : at < length numbers = omega (arith, f.numbered) in
        let v = get_or sums at nan ⊕ q.volatility in
        let m = get_or numbers at 0 + 1 in
        record {
          sized = simp length-set f.sized;
          numbered = simp length-set f.numbered;
          summing = λ i j l r. split (eqb a i && eqb b j)
              (λ t. rw (same i j t, get_or-set_same sums at v nan s) (rw (next i j, t, same i j t) at (f.summing i j l r)))
              (λ t. rw (get_or-set_other sums at (cell_at i j) v nan (other i j r t)) (rw (next i j, t) at (f.summing i j l r)));
          numbering = λ i j l r. split (eqb a i && eqb b j)
              (λ t. rw (same i j t, get_or-set_same numbers at m 0 n) (let h = (rw (next i j, t, same i j t) at (f.numbering i j l r)) in omega arith))
              (λ t. rw (get_or-set_other numbers at (cell_at i j) m 0 (other i j r t)) (rw (next i j, t) at (f.numbering i j l r)));
        }

    pub file_put : (at : ℕ) → at ≡ cell_at a b → (sums : List Float) (numbers : List ℕ) → Filing sums numbers k
        → Filing (set sums at (get_or sums at nan ⊕ q.volatility)) (set numbers at (get_or numbers at 0 + 1)) (k + 1)
    file_put at p sums numbers f = rw p (file_here sums numbers f)

  pub file_end : (sums : List Float) (numbers : List ℕ) (k : ℕ) → drop k qs ≡ [] → Filing sums numbers k → Filed x qs sums numbers
  unfolding counted added
  file_end sums numbers k e f =
      record {
        sum = λ i j a b. (rw e at (f.summing i j a b));
        number = λ i j a b. (let h = (rw e at (f.numbering i j a b)) in omega arith);
      }
