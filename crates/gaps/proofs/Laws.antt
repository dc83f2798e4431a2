-- The filler's laws: rows and columns are lines, and what that comes to. Assumes nothing.
use Prim.Native.Nat.{ℕ, zero, suc, ◌+◌, ◌-◌, ◌*◌, ◌≤◌, ◌<◌}
use mathlib.Core.Path.{◌≡◌, refl, sym, ap, ◌∙◌}
use mathlib.Core.Bool.{false}
use mathlib.Core.List.{List, [], ◌∷◌}
use native.Mathlib.Omega.{arith}
use lib.Dec.{ltb, eqb}
use native.Mathlib.Nat.{le_of_suc-le-suc}
use lib.ListN.{length, take, drop, get_or, set, length-set, length-drop}
use lib.Seq.{get_or-drop, get_or-set_same, get_or-set_other}
use lib.Ieee.{Float, nan, is_nan}
use borrow.Author.Tests.{ltb-true, ltb-false, eqb-true, eqb-false}
use Rattle.floats.proofs.Tests.{split}
use Rattle.limits.specs.Outcome.{Outcome, unless_refused}
use Rattle.grid.specs.Layout.{cell_at, partly}
use Rattle.grid.proofs.Rows.{part_length}
use Rattle.grid.proofs.Places.{Place, used, unused, place}
use Rattle.grid.proofs.Parts.{put_length, put_before, put_here, put_after}
use Rattle.grid.proofs.Values.{length_values, values_front}
use Rattle.gaps.specs.Gaps.{swept, rows_swept, column, put_column, columns_swept, gaps_filled, fill_refusal, FillsGaps}
use Rattle.gaps.specs.Filler.{Takes, SweptAlong, Fills, Filler}
use Rattle.gaps.proofs.Sweeps.{length_swept, given, takes_own}
use Rattle.gaps.proofs.Checks.{fits, let_through}
use Rattle.gaps.proofs.Lines.{line, LineSwept, no_lines, one_line_more}

-- ---- rows
module _ (strikes : ℕ) (narrow : strikes ≤ 64) (was : List Float) (long : 2048 ≤ length was) where
  rows_apart : (a a' b b' : ℕ) → a < a' → a' < 32 → b < strikes → b' < strikes → cell_at a b ≡ cell_at a' b' → ⊥
  rows_apart a a' b b' h m p q e = omega arith

  row_swept : (i : ℕ) (g : List Float) → i < 32 → length g ≡ length was
      → LineSwept cell_at strikes i g (partly (λ row. swept row) (cell_at i 0) strikes g)
  unfolding partly
  row_swept i g h e =
      let a = 64 * i + 0 in
      let part = take strikes (drop a g) in
      let fits : a + strikes ≤ length g = omega arith in
      let here : line cell_at strikes i g ≡ part = values_front (drop a g) nan (λ b. get_or g (cell_at i b) nan) strikes 0
      (simp length-drop (omega arith)) (λ b. ap (λ (p : ℕ). get_or g p nan) (omega arith) ∙ sym (get_or-drop a g b nan)) in
      let size = length_swept part ∙ part_length a strikes g fits in
      record {
        sized = put_length g (swept part) a strikes fits size;
        here = λ b m. let q : cell_at i b ≡ a + b = omega arith in rw (here, q) (put_here g (swept part) a strikes fits size nan b m);
        elsewhere = λ p out.
            split (ltb p a)
            (λ u. put_before g (swept part) a strikes fits size nan p (ltb-true p a u))
            (λ u.
            let b = ltb-false p a u in
            split (ltb p (a + strikes))
            (λ w. let c = ltb-true p (a + strikes) w in absurd (out (p - a) (omega arith) (omega arith)))
            (λ w. put_after g (swept part) a strikes fits size nan p (ltb-false p (a + strikes) w)));
      }

  pub rows_swept_lem : (i : ℕ) → i ≤ 32 → SweptAlong cell_at i strikes was (rows_swept i strikes was)
  unfolding rows_swept
  rows_swept_lem zero h = no_lines cell_at 32 strikes rows_apart was
  rows_swept_lem (suc i) h =
      let S = rows_swept_lem i (omega arith) in
      one_line_more cell_at 32 strikes rows_apart was i h _ _ S (row_swept i (rows_swept i strikes was) h S.sized)

-- ---- columns
abbrev down : ℕ → ℕ → ℕ
down j i = cell_at i j

length_put : (j i : ℕ) (vs g : List Float) → length (put_column j i vs g) ≡ length g
unfolding put_column
length_put j i [] g = refl
length_put j i (v ∷ vs) g = length_put j (suc i) vs (set g (cell_at i j) v) ∙ length-set g (cell_at i j) v

put_else : (j i p : ℕ) (vs g : List Float) → ((b : ℕ) → b < length vs → cell_at (i + b) j ≡ p → ⊥)
    → get_or (put_column j i vs g) p nan ≡ get_or g p nan
unfolding put_column
put_else j i p [] g out = refl
put_else j i p (v ∷ vs) g out =
    put_else j (suc i) p vs (set g (cell_at i j) v) (λ b h e. out (suc b) (omega arith) (omega arith))
    ∙ get_or-set_other g (cell_at i j) p v nan (λ e. out 0 (omega arith) (omega arith))

put_at : (j i b : ℕ) (vs g : List Float) → b < length vs → cell_at (i + b) j < length g → get_or (put_column j i vs g) (cell_at (i + b) j) nan ≡ get_or vs b nan
unfolding put_column
put_at j i b [] g h l = absurd (omega arith)
put_at j i zero (v ∷ vs) g h l =
    let e : i + 0 ≡ i = omega arith in
    rw e
    (put_else j (suc i) (cell_at i j) vs (set g (cell_at i j) v) (λ b m q. omega arith)
    ∙ get_or-set_same g (cell_at i j) v nan (omega arith))
put_at j i (suc b) (v ∷ vs) g h l =
    let e : i + suc b ≡ suc i + b = omega arith in
    rw e (put_at j (suc i) b vs (set g (cell_at i j) v) (le_of_suc-le-suc h) (rw (length-set g (cell_at i j) v) (omega arith)))

module _ (expiries : ℕ) (low : expiries ≤ 32) (was : List Float) (long : 2048 ≤ length was) where
  columns_apart : (a a' b b' : ℕ) → a < a' → a' < 64 → b < expiries → b' < expiries → down a b ≡ down a' b' → ⊥
  columns_apart a a' b b' h m p q e = omega arith

  column_swept : (j : ℕ) (g : List Float) → j < 64 → length g ≡ length was
      → LineSwept down expiries j g (put_column j 0 (swept (column j expiries g)) g)
  column_swept j g h e =
      let vs = swept (column j expiries g) in
      let size : length vs ≡ expiries = length_swept (column j expiries g) ∙ length_values (λ i. get_or g (cell_at i j) nan) expiries 0 in
      record {
        sized = length_put j 0 vs g;
        here = λ b m. let q : cell_at (0 + b) j ≡ cell_at b j = omega arith in rw (← q) (put_at j 0 b vs g (rw size m) (omega arith));
        elsewhere = λ p out. put_else j 0 p vs g (λ b m q. let k : b < expiries = (rw size at m) in out b k (omega arith));
      }

  pub columns_swept_lem : (j : ℕ) → j ≤ 64 → SweptAlong down j expiries was (columns_swept j expiries was)
  unfolding columns_swept
  columns_swept_lem zero h = no_lines down 64 expiries columns_apart was
  columns_swept_lem (suc j) h =
      let S = columns_swept_lem j (omega arith) in
      one_line_more down 64 expiries columns_apart was j h _ _ S (column_swept j (columns_swept j expiries was) h S.sized)

-- ---- both
module _ (strikes expiries : ℕ) (was : List Float) (narrow : strikes ≤ 64) (low : expiries ≤ 32) (long : 2048 ≤ length was) where
  abbrev between : List Float
  between = rows_swept expiries strikes was

  by_rows : SweptAlong cell_at expiries strikes was between
  by_rows = rows_swept_lem strikes narrow was long expiries low

  by_columns : SweptAlong down strikes expiries between (gaps_filled strikes expiries was)
  by_columns = columns_swept_lem expiries low between (rw by_rows.sized long) strikes narrow

  -- a cell that has a value after the rows keeps it
  own_row : (i j k : ℕ) → i < expiries → j < strikes → Takes (λ l. get_or was (cell_at i l) nan) strikes j k
      → get_or (gaps_filled strikes expiries was) (cell_at i j) nan ≡ get_or was (cell_at i k) nan
  own_row i j k h m t =
      let r = by_rows.takes i j k h m t in
      by_columns.takes j i i m h (takes_own (λ l. get_or between (cell_at l j) nan) expiries i h (rw r t.value)) ∙ r

  full : (i j m k : ℕ) → i < expiries → j < strikes → m < expiries → k < strikes → is_nan (get_or was (cell_at m k) nan) ≡ false
      → is_nan (get_or (gaps_filled strikes expiries was) (cell_at i j) nan) ≡ false
  full i j m k h l a b e =
      let G = given (λ n. get_or was (cell_at m n) nan) strikes j k l b e in
      let r = by_rows.takes m j G.place a l G.takes in
      let H = given (λ n. get_or between (cell_at n j) nan) expiries i m h a (rw r G.takes.value) in
      rw (by_columns.takes j i H.place l h H.takes) H.takes.value

  pub filled_grid : Fills strikes expiries was (gaps_filled strikes expiries was)
  filled_grid = record { rows = by_rows; columns = by_columns; own_row = own_row; full = full }

  elsewhere : (p : ℕ) → ((i j : ℕ) → i < expiries → j < strikes → cell_at i j ≡ p → ⊥) → get_or (gaps_filled strikes expiries was) p nan ≡ get_or was p nan
  elsewhere p out = by_columns.elsewhere p (λ j i a b e. out i j b a e) ∙ by_rows.elsewhere p out

  known : (p : ℕ) → is_nan (get_or was p nan) ≡ false → get_or (gaps_filled strikes expiries was) p nan ≡ get_or was p nan
  known p e = from (place expiries strikes p narrow)
    where
      from : Place expiries strikes p → get_or (gaps_filled strikes expiries was) p nan ≡ get_or was p nan
      from (used i j h m q) = rw (← q) (own_row i j j h m (takes_own (λ l. get_or was (cell_at i l) nan) strikes j m (rw q e)))
      from (unused out) = elsewhere p out

  pub after_all : Filler strikes expiries was (gaps_filled strikes expiries was)
  after_all =
      record { sized = by_columns.sized ∙ by_rows.sized; elsewhere = elsewhere; known = known; fills = λ a b c. filled_grid }

-- ---- every call
pub filler : (strikes expiries : ℕ) (was is : List Float) (answer : Outcome (Unit {0})) → FillsGaps strikes expiries was answer is
    → Filler strikes expiries was is
unfolding unless_refused
filler strikes expiries was is answer c =
    let n = fill_refusal strikes expiries was in
    split (eqb n 0)
    (λ u.
    let f = fits strikes expiries was (eqb-true n 0 u) in
    let e : is ≡ gaps_filled strikes expiries was = (rw u at c.grid) in
    rw e (after_all strikes expiries was f.0 f.1 f.2))
    (λ u.
    let e : is ≡ was = (rw u at c.grid) in
    let z = eqb-false n 0 u in
    rw e
    (record { sized = refl; elsewhere = λ p out. refl; known = λ p h. refl; fills = λ a b d. absurd (z (let_through strikes expiries was a b d)) }))
