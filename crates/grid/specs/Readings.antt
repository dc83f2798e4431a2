-- Document 01: "Reading checks 2, 15, 18, 19, 20 and follows `interpolate`. The at-the-money reading takes the strike at index n/2, rounded down." Since S-2
-- of document 02 that reading is the middle strike's; at the money is ledger/specs/Money.
-- `bracket` and the corners v00, v10, v01, v11 are the Rust's.
use Rattle.std.specs.Prelude.{ℕ, suc, ◌-◌, ◌/◌, ◌≤◌, ◌<◌, ◌≡◌, Bool, true, false, not, ◌&&◌, ◌||◌}
use Rattle.std.specs.Prelude.{List, [], ◌∷◌, ltb, leb, eqb, length, take, get_or, Float, Result, if◌then◌else◌}
use Rattle.std.specs.Float.{nan}
use Rattle.std.specs.Float.Ieee.{is_nan}
use Rattle.floats.specs.Operators.{decimal, ◌⊕◌, ◌⊖◌, ◌⊗◌, ◌⊘◌, ◌≺◌, ◌≼◌}
use Rattle.floats.specs.Values.{magnitude, finite}
use Rattle.limits.specs.Ranges.{within}
use Rattle.limits.specs.Checks.{first, none}
use Rattle.limits.specs.Outcome.{Outcome, answered}
use Rattle.grid.specs.Layout.{cell_at}
use Rattle.grid.specs.Search.{first_where}
use Rattle.grid.specs.declared.Span.{Span}
use Rattle.grid.specs.declared.Corners.{Corners}
use Rattle.limits.specs.Refusals.{outcome_with}
use Rattle.limits.specs.declared.Refusal.{Refusal}

-- 18: an axis has values, and they are finite and strictly ascending.
unfoldable pub ascends : Float → List Float → Bool
ascends x [] = true
ascends x (y ∷ ys) = (finite y && x ≺ y) && ascends y ys

unfoldable pub is_axis : List Float → Bool
is_axis [] = false
is_axis (x ∷ xs) = finite x && ascends x xs

-- 19 and 20: from the first value of an axis to its last, ends included. A not-a-number is outside.
unfoldable pub inside : List Float → Float → Bool
inside axis x = within (get_or axis 0 nan) (get_or axis (length axis - 1) nan) x

-- How far x stands from one axis value towards the next.
unfoldable pub fraction : Float → Float → Float → Float
fraction lo hi x = if magnitude (hi ⊖ lo) ≺ decimal 1 1000000000000000 then decimal 0 1 else (x ⊖ lo) ⊘ (hi ⊖ lo)

-- A value that is not at most x.
abbrev pub above : Float → Float → Bool
above x v = not (v ≼ x)

-- The two axis values that x stands between, by index, and the fraction. `partition_point` of an ascending axis is the first value above x.
unfoldable pub bracket : List Float → Float → Span
bracket axis x =
    let n = length axis in
    let pos = first_where (above x) axis in
    if eqb n 1 || eqb pos 0 then record { lower = 0; upper = 0; fraction = decimal 0 1 } else
    (if leb n pos then record { lower = n - 1; upper = n - 1; fraction = decimal 0 1 } else
    record { lower = pos - 1; upper = pos; fraction = fraction (get_or axis (pos - 1) nan) (get_or axis pos nan) x })

-- The cells that a read uses: all four corners of its brackets, also one that has no weight.
unfoldable pub corners : Span → Span → List Float → Corners
corners s e grid =
    record {
      v00 = get_or grid (cell_at e.lower s.lower) nan;
      v10 = get_or grid (cell_at e.lower s.upper) nan;
      v01 = get_or grid (cell_at e.upper s.lower) nan;
      v11 = get_or grid (cell_at e.upper s.upper) nan;
    }

unfoldable pub has_gap : Corners → Bool
has_gap v = is_nan v.v00 || is_nan v.v10 || is_nan v.v01 || is_nan v.v11

-- Bilinear interpolation, ts the fraction among strikes and te among expiries.
unfoldable pub bilinear : Corners → Float → Float → Float
bilinear v ts te =
    (decimal 1 1 ⊖ te) ⊗ ((decimal 1 1 ⊖ ts) ⊗ v.v00 ⊕ ts ⊗ v.v10)
    ⊕ te ⊗ ((decimal 1 1 ⊖ ts) ⊗ v.v01 ⊕ ts ⊗ v.v11)

-- The checks of a read of a surface: its lent axes and grid, and how many strikes and expiries are in use. `gap` is whether a cell that the
-- read uses is not-a-number.
unfoldable pub read_refusal : List Float → List Float → List Float → ℕ → ℕ → Float → Float → Bool → ℕ
read_refusal strikeAxis expiryAxis grid strikes expiries strike expiry gap =
    first (ltb 64 strikes || ltb 32 expiries) 2
    (first (ltb (length strikeAxis) 64 || ltb (length expiryAxis) 32 || ltb (length grid) 2048) 15
    (first (not (is_axis (take strikes strikeAxis) && is_axis (take expiries expiryAxis))) 18
    (first (not (inside (take strikes strikeAxis) strike)) 19
    (first (not (inside (take expiries expiryAxis) expiry) || gap) 20
    none))))

-- What a read answers: the volatility, or a refusal with 0.0.
unfoldable pub reading : List Float → List Float → List Float → ℕ → ℕ → Float → Float → Outcome Float
reading strikeAxis expiryAxis grid strikes expiries strike expiry =
    let s = bracket (take strikes strikeAxis) strike in
    let e = bracket (take expiries expiryAxis) expiry in
    let v = corners s e grid in
    answered (read_refusal strikeAxis expiryAxis grid strikes expiries strike expiry (has_gap v)) (decimal 0 1)
    (bilinear v s.fraction e.fraction)

-- The middle strike: the one at index n/2.
abbrev pub middle_strike : List Float → ℕ → Float
middle_strike strikeAxis strikes = get_or strikeAxis (strikes / 2) nan

-- "The strike at index n/2, rounded down, n being the number of strikes": of one the only one, of two the upper, of three the middle, of four the third.
pub record Middle (a b c d : Float) : Type 0 where
  pub of_1 : middle_strike (a ∷ []) 1 ≡ a
  pub of_2 : middle_strike (a ∷ b ∷ []) 2 ≡ b
  pub of_3 : middle_strike (a ∷ b ∷ c ∷ []) 3 ≡ b
  pub of_4 : middle_strike (a ∷ b ∷ c ∷ d ∷ []) 4 ≡ c

-- The answer in document 01's terms.
abbrev pub read_outcome : Result Float Refusal → Outcome Float
read_outcome answer = outcome_with (decimal 0 1) answer

-- What a bracket comes to, x being inside the axis: its lower value is not above x; its upper one is the next, and above x, or there is no next one.
pub data UpperEnd (axis : List Float) (x : Float) (s : Span) : Type 0 where
  next : suc s.lower ≡ s.upper → s.upper < length axis → get_or axis s.upper nan ≼ x ≡ false
      → s.fraction ≡ fraction (get_or axis s.lower nan) (get_or axis s.upper nan) x → UpperEnd axis x s
  last : s.upper ≡ s.lower → suc s.lower ≡ length axis → s.fraction ≡ decimal 0 1 → UpperEnd axis x s

pub record Brackets (axis : List Float) (x : Float) (s : Span) : Type 0 where
  pub lower : get_or axis s.lower nan ≼ x ≡ true
  pub upper : UpperEnd axis x s

-- What a read has that no check turns down but perhaps 20, for a gap: 2 leaves sizes in range, 15 lengths, 18 axes, 19 and 20 a point inside them.
pub record Passed (K E grid : List Float) (strikes expiries : ℕ) (strike expiry : Float) : Type 0 where
  pub few_strikes : strikes ≤ 64
  pub few_expiries : expiries ≤ 32
  pub long_strikes : 64 ≤ length K
  pub long_expiries : 32 ≤ length E
  pub long_grid : 2048 ≤ length grid
  pub some_strikes : 0 < strikes
  pub some_expiries : 0 < expiries
  pub axes : (is_axis (take strikes K) && is_axis (take expiries E)) ≡ true
  pub strike_inside : inside (take strikes K) strike ≡ true
  pub expiry_inside : inside (take expiries E) expiry ≡ true
  pub number : (gap : Bool) → read_refusal K E grid strikes expiries strike expiry gap ≡ first gap 20 none

-- 01's numbers of a read a second time, each where its check is the first that holds.
pub record Numbered (K E grid : List Float) (strikes expiries : ℕ) (strike expiry : Float) (gap : Bool) : Type 0 where
  pub many_strikes : 64 < strikes → read_refusal K E grid strikes expiries strike expiry gap ≡ 2
  pub many_expiries : 32 < expiries → read_refusal K E grid strikes expiries strike expiry gap ≡ 2
  pub short_strikes : strikes ≤ 64 → expiries ≤ 32 → length K < 64 → read_refusal K E grid strikes expiries strike expiry gap ≡ 15
  pub short_expiries : strikes ≤ 64 → expiries ≤ 32 → length E < 32 → read_refusal K E grid strikes expiries strike expiry gap ≡ 15
  pub short_grid : strikes ≤ 64 → expiries ≤ 32 → length grid < 2048 → read_refusal K E grid strikes expiries strike expiry gap ≡ 15
  pub no_axis : strikes ≤ 64 → expiries ≤ 32 → 64 ≤ length K → 32 ≤ length E → 2048 ≤ length grid
      → (is_axis (take strikes K) && is_axis (take expiries E)) ≡ false → read_refusal K E grid strikes expiries strike expiry gap ≡ 18
