-- Every quote in range has its cell, the counts add up, and every row in use has a counted cell. Assumes nothing.
use Prim.Native.Nat.{ℕ, zero, suc, ◌+◌, ◌-◌, ◌≤◌, ◌<◌}
use mathlib.Core.Path.{◌≡◌, refl, sym, ap, ◌∙◌}
use mathlib.Core.Bool.{Bool, true, false, ◌&&◌, cond}
use mathlib.Core.Logic.{inl, inr}
use mathlib.Core.List.{List, [], ◌∷◌, map}
use mathlib.Core.Option.{Option, none, some}
use native.Mathlib.Nat.{eq-or-lt_of_le, le_of_suc-le-suc}
use native.Mathlib.Omega.{arith}
use lib.Dec.{ltb, eqb}
use lib.ListN.{length, get_or}
use lib.Ieee.{Float, nan, is_nan}
use borrow.Author.Tests.{eq-eqb, ne_eqb, ltb-true, ltb-false}
use Rattle.floats.proofs.Tests.{and_left, and_right, split}
use Rattle.limits.specs.Ranges.{is_strike, is_expiry, is_volatility}
use Rattle.limits.proofs.Ranges.{spot_positive, expiry_positive}
use Rattle.gaps.specs.Gaps.{gaps_filled}
use Rattle.grid.specs.Layout.{cell_at}
use Rattle.grid.specs.Readings.{is_axis}
use Rattle.chart.specs.Quotes.{Quote, in_range, all_in_range}
use Rattle.chart.specs.Axis.{axis, place}
use Rattle.chart.specs.Cells.{Axes, axes, Housed, counted, count, leftward, rightward, either, source, cell}
use Rattle.chart.specs.Meaning.{sum_to, all_counts, source_in, mean_or_gap, grid_of, Meaning}
use Rattle.chart.specs.Build.{Buffers, surface_of}
use Rattle.chart.specs.Steps.{Pos, Ascending, OnAxes}
use Rattle.chart.proofs.Ordered.{Mem, sort_sorted, sort_same}
use Rattle.chart.proofs.Spread.{placed, axis_spaced, axis_ascends, axis_place, axis_member, axis_axis}
use Rattle.chart.proofs.Numbers.{mean_number}
use Rattle.chart.proofs.Filing.{counted_most}
use Rattle.chart.proofs.Layouts.{table_at}
use Rattle.chart.proofs.Sweeping.{by_sweeps}
use Rattle.chart.proofs.Neighbour.{Left, Right, left_is, right_is}

-- ---- quotes in range have strikes and expiries that are finite and above 0
abbrev pub strikes : List Quote → List Float
strikes qs = map (λ (q : Quote). q.strike) qs

abbrev pub expiries : List Quote → List Float
expiries qs = map (λ (q : Quote). q.expiry) qs

pub strikes_pos : (qs : List Quote) → all_in_range qs ≡ true → Pos (strikes qs)
unfolding all_in_range
strikes_pos [] h = tt
strikes_pos (q ∷ qs) h =
    let here = and_left (in_range q) (all_in_range qs) h in
    let two = and_left (is_strike q.strike && is_expiry q.expiry) (is_volatility q.volatility) here in
    (spot_positive q.strike (and_left (is_strike q.strike) (is_expiry q.expiry) two), strikes_pos qs (and_right (in_range q) (all_in_range qs) h))

pub expiries_pos : (qs : List Quote) → all_in_range qs ≡ true → Pos (expiries qs)
unfolding all_in_range
expiries_pos [] h = tt
expiries_pos (q ∷ qs) h =
    let here = and_left (in_range q) (all_in_range qs) h in
    let two = and_left (is_strike q.strike && is_expiry q.expiry) (is_volatility q.volatility) here in
    (expiry_positive q.expiry (and_right (is_strike q.strike) (is_expiry q.expiry) two), expiries_pos qs (and_right (in_range q) (all_in_range qs) h))

-- ---- every quote has a cell: those of a part of a list stand on the axes of the whole
housed_on : (xs ys : List Float) (qs : List Quote) → Pos xs → Pos ys
    → ((z : Float) → Mem z (strikes qs) → Mem z xs) → ((z : Float) → Mem z (expiries qs) → Mem z ys)
    → Housed (record { strikes = axis xs; expiries = axis ys }) qs
housed_on xs ys [] p q f g = tt
housed_on xs ys (k ∷ qs) p q f g =
    let row = placed ys k.expiry q (g k.expiry (inl refl)) in
    let column = placed xs k.strike p (f k.strike (inl refl)) in
    (row, column, housed_on xs ys qs p q (λ z m. f z (inr m)) (λ z m. g z (inr m)))

pub all_housed : (qs : List Quote) → all_in_range qs ≡ true → Housed (axes qs) qs
unfolding axes
all_housed qs h = housed_on (strikes qs) (expiries qs) qs (strikes_pos qs h) (expiries_pos qs h) (λ z m. m) (λ z m. m)

-- ---- and it is found by halves
on_axes : (x : Axes) (qs : List Quote) → Ascending x.strikes → Ascending x.expiries → Pos (strikes qs) → Pos (expiries qs) → Housed x qs → OnAxes x qs
on_axes x [] a b p q h = tt
on_axes x (k ∷ qs) a b p q h = (
  record { ascends = b; above_zero = q.0; inside = h.0 },
  record { ascends = a; above_zero = p.0; inside = h.1 },
  on_axes x qs a b p.1 q.1 h.2,
)

pub all_placed : (qs : List Quote) → all_in_range qs ≡ true → OnAxes (axes qs) qs
unfolding axes
all_placed qs h =
    let p = strikes_pos qs h in
    let q = expiries_pos qs h in
    on_axes (axes qs) qs (axis_ascends (strikes qs) p) (axis_ascends (expiries qs) q) p q (all_housed qs h)

-- ---- the counts add up
sum_add : (n : ℕ) (f g : ℕ → ℕ) → sum_to n (λ k. f k + g k) ≡ sum_to n f + sum_to n g
unfolding sum_to
sum_add zero f g = refl
sum_add (suc n) f g = omega (arith, sum_add n f g)

sum_zero : (n : ℕ) → sum_to n (λ k. 0) ≡ 0
unfolding sum_to
sum_zero zero = refl
sum_zero (suc n) = omega (arith, sum_zero n)

sum_same : (n : ℕ) (f g : ℕ → ℕ) → ((k : ℕ) → f k ≡ g k) → sum_to n f ≡ sum_to n g
unfolding sum_to
sum_same zero f g h = refl
sum_same (suc n) f g h = omega (arith, sum_same n f g h, h n)

abbrev bit : Bool → ℕ
bit b = cond b 1 0

-- one at p, and nothing elsewhere
sum_past : (n p : ℕ) → n ≤ p → sum_to n (λ k. bit (eqb p k)) ≡ 0
unfolding sum_to
sum_past zero p h = refl
sum_past (suc n) p h = rw (ne_eqb p n (λ e. omega arith)) (omega (arith, sum_past n p (omega arith)))

sum_one : (n p : ℕ) → p < n → sum_to n (λ k. bit (eqb p k)) ≡ 1
unfolding sum_to
sum_one zero p h = absurd (omega arith)
sum_one (suc n) p h =
    elim (eq-or-lt_of_le (le_of_suc-le-suc h)) [
      | inl e ↦ rw (eq-eqb p n e) (omega (arith, sum_past n p (omega arith)))
      | inr l ↦ rw (ne_eqb p n (λ e. omega arith)) (omega (arith, sum_one n p l))
    ]

row_one : (b : Bool) (n p : ℕ) → p < n → sum_to n (λ j. bit (b && eqb p j)) ≡ bit b
row_one true n p h = sum_one n p h
row_one false n p h = sum_zero n

-- a quote more is one more in its own cell
count_more : (x : Axes) (i j : ℕ) (q : Quote) (qs : List Quote)
    → count x i j (q ∷ qs) ≡ bit (eqb (place x.expiries q.expiry) i && eqb (place x.strikes q.strike) j) + count x i j qs
unfolding counted
count_more x i j q qs =
    split (eqb (place x.expiries q.expiry) i && eqb (place x.strikes q.strike) j) (λ t. rw t (omega arith)) (λ t. rw t (omega arith))

pub counts_sum : (x : Axes) (qs : List Quote) → Housed x qs → all_counts x qs ≡ length qs
unfolding counted
counts_sum x [] h = sum_same (length x.expiries) _ _ (λ i. sum_zero (length x.strikes)) ∙ sum_zero (length x.expiries)
counts_sum x (q ∷ qs) h =
    let r = length x.expiries in
    let w = length x.strikes in
    let a = place x.expiries q.expiry in
    let b = place x.strikes q.strike in
    sum_same r _ _ (λ i. sum_same w _ _ (λ j. count_more x i j q qs) ∙ sum_add w _ _)
    ∙ sum_add r _ _
    ∙ omega (arith, sum_same r _ _ (λ i. row_one (eqb a i) w b h.1) ∙ sum_one r a h.0, counts_sum x qs h.2)

-- ---- every row has a counted cell
abbrev Busy : Axes → ℕ → List Quote → Type 0
Busy x i qs = (b : ℕ) × (b < length x.strikes) × (0 < count x i b qs)

busy : (x : Axes) (i : ℕ) (qs : List Quote) (z : Float) → Housed x qs → place x.expiries z ≡ i → Mem z (expiries qs) → Busy x i qs
busy x i [] z h e m = absurd m
busy x i (q ∷ qs) z h e (inl p) =
    let b = place x.strikes q.strike in
    let r = place x.expiries q.expiry in
    let t : eqb r i ≡ true = eq-eqb r i (ap (λ (y : Float). place x.expiries y) (sym p) ∙ e) in
    (b, h.1, rw (count_more x i b q qs, t, eq-eqb b b refl) (omega arith))
busy x i (q ∷ qs) z h e (inr m) =
    let t = busy x i qs z h.2 e m in
    (t.0, t.1, rw (count_more x i t.0 q qs) (omega (arith, t.2)))

row_busy : (qs : List Quote) (i : ℕ) → all_in_range qs ≡ true → i < length (axes qs).expiries → Busy (axes qs) i qs
unfolding axes
row_busy qs i r h =
    busy (axes qs) i qs (get_or (axis (expiries qs)) i nan) (all_housed qs r)
    (axis_place (expiries qs) i nan (expiries_pos qs r) h) (axis_member (expiries qs) i nan h)

-- ---- in a row with a counted cell, the cell that a value is taken from is counted
pick : (c : ℕ → ℕ) (w j b : ℕ) (l r : Option ℕ) → j < w → b < w → 0 < c b → Left c j l → Right c j w r → (either l r < w) × (0 < c (either l r))
pick c w j b (some k) r h g p a d = (omega (arith, a.0), a.1)
pick c w j b none (some k) h g p a d = (d.1, d.2)
pick c w j b none none h g p a d =
    let z : c b ≡ 0 = split (ltb b j) (λ t. a b (ltb-true b j t)) (λ t. d b (ltb-false b j t) g) in
    absurd (omega arith)

source_has : (c : ℕ → ℕ) (w j b : ℕ) → j < w → b < w → 0 < c b → (source c w j < w) × (0 < c (source c w j))
unfolding source
source_has c w j b h g p =
    split (ltb 0 (c j)) (λ t. rw t (h, ltb-true 0 (c j) t))
    (λ t. rw t (pick c w j b (leftward c j) (rightward c j (w - j)) h g p (left_is c j) (right_is c j (w - j) w (omega arith))))

-- ---- every cell in use holds a number
cell_number : (qs : List Quote) (i j : ℕ) → all_in_range qs ≡ true → length qs ≤ 1024 → i < length (axes qs).expiries → j < length (axes qs).strikes
    → is_nan (cell (axes qs) qs i j) ≡ false
unfolding cell
cell_number qs i j r h k l =
    let b = row_busy qs i r k in
    let s = source_in (axes qs) qs i j in
    let c = source_has (λ m. count (axes qs) i m qs) (length (axes qs).strikes) j b.0 l b.1 b.2 in
    mean_number (axes qs) i s (count (axes qs) i s qs) qs r c.1 (omega (arith, counted_most (axes qs) i s qs))

-- ---- an uncounted cell's count is written
uncounted_zero : (qs : List Quote) (s : Buffers) (i j : ℕ) → length (axes qs).strikes ≤ 64 → length (axes qs).expiries ≤ 32 → 2048 ≤ length s.counts
    → i < length (axes qs).expiries → j < length (axes qs).strikes → count (axes qs) i j qs ≡ 0 → get_or (surface_of qs s).counts (cell_at i j) 1 ≡ 0
uncounted_zero qs s i j narrow low long h m e =
    table_at (λ i j. count (axes qs) i j qs) (length (axes qs).strikes) narrow s.counts (length (axes qs).expiries) i j 1 (omega arith) h m ∙ e

-- ---- the sweeps make the cells of the means
swept_cells : (qs : List Quote) (was : List Float) → all_in_range qs ≡ true → length qs ≤ 1024 → length (axes qs).strikes ≤ 64
    → length (axes qs).expiries ≤ 32 → 2048 ≤ length was
    → gaps_filled (length (axes qs).strikes) (length (axes qs).expiries) (grid_of (axes qs) (mean_or_gap (axes qs) qs) was)
    ≡ grid_of (axes qs) (cell (axes qs) qs) was
swept_cells qs was r few narrow low long =
    by_sweeps (axes qs) qs was narrow low long (λ i l. row_busy qs i r l)
    (λ i j h. mean_number (axes qs) i j (count (axes qs) i j qs) qs r h (omega (arith, counted_most (axes qs) i j qs)))

-- ---- the axes of some quotes are axes
axes_are : (qs : List Quote) → all_in_range qs ≡ true → 0 < length qs → (is_axis (axes qs).strikes ≡ true) × (is_axis (axes qs).expiries ≡ true)
unfolding axes
axes_are [] r h = absurd (omega arith)
axes_are (q ∷ qs) r h =
    let k = axis_axis (strikes (q ∷ qs)) q.strike (strikes_pos (q ∷ qs) r) (inl refl) in
    let t = axis_axis (expiries (q ∷ qs)) q.expiry (expiries_pos (q ∷ qs) r) (inl refl) in
    (k, t)

-- ---- all of it
pub meaning : (qs : List Quote) → all_in_range qs ≡ true → Meaning qs
unfolding axes
meaning qs h =
    record {
      strikes_sorted = sort_sorted (strikes qs) (strikes_pos qs h);
      strikes_same = sort_same (strikes qs);
      expiries_sorted = sort_sorted (expiries qs) (expiries_pos qs h);
      expiries_same = sort_same (expiries qs);
      strikes_spaced = axis_spaced (strikes qs) (strikes_pos qs h);
      expiries_spaced = axis_spaced (expiries qs) (expiries_pos qs h);
      housed = all_housed qs h;
      once = counts_sum (axes qs) qs (all_housed qs h);
      row_counted = λ i l. row_busy qs i h l;
      source_counted = λ i j l m. let b = row_busy qs i h l in source_has (λ k. count (axes qs) i k qs) (length (axes qs).strikes) j b.0 m b.1 b.2;
      strikes_axis = λ s. (axes_are qs h s).0;
      expiries_axis = λ s. (axes_are qs h s).1;
      no_gap = λ s i j l m. cell_number qs i j h s l m;
      uncounted = λ s a b l i j m n e. uncounted_zero qs s i j a b l m n e;
      by_sweeps = λ s a b was l. swept_cells qs was h s a b l;
    }
