-- Document 02, S-2: at-the-money "becomes the strike nearest its spot by float difference, the lower one on a tie".
use Rattle.std.specs.Prelude.{ℕ, ◌<◌, ◌^◌, ◌≡◌, Bool, true, false, not, ◌&&◌, ◌||◌, List, [], ◌∷◌, T, ltb, length, take, get_or, Float, if◌then◌else◌}
use Rattle.std.specs.Float.{nan, binary64}
use Rattle.std.specs.Float.Ieee.{fits, round}
use Rattle.floats.specs.Operators.{◌⊖◌, ◌≺◌}
use Rattle.floats.specs.Values.{magnitude, finite}
use Rattle.floats.specs.Wholes.{distance}
use Rattle.limits.specs.Checks.{first, none}
use Rattle.grid.specs.Search.{first_where}
use Rattle.grid.specs.Readings.{is_axis, inside, read_refusal, middle_strike}

-- How far a strike is from the spot: the magnitude of the float difference.
abbrev pub away_from : Float → Float → Float
away_from spot strike = magnitude (strike ⊖ spot)

abbrev pub is_nearer : Float → Float → Float → Bool
is_nearer spot k strike = away_from spot k ≺ away_from spot strike

-- Whether one of the strikes is nearer to the spot than this one.
unfoldable pub is_beaten : Float → List Float → Float → Bool
is_beaten spot [] strike = false
is_beaten spot (k ∷ ks) strike = is_nearer spot k strike || is_beaten spot ks strike

-- The index of the nearest strike: of those that no strike is nearer than, the first, which on an axis is the lowest.
unfoldable pub nearest : Float → List Float → ℕ
unfolding is_beaten first_where
nearest spot strikes = first_where (λ k. not (is_beaten spot strikes k)) strikes

-- That strike. What is no axis has none: not-a-number.
unfoldable pub nearest_strike : Float → List Float → Float
unfolding nearest is_axis
nearest_strike spot strikes = if is_axis strikes then get_or strikes (nearest spot strikes) nan else nan

-- ---- what the nearest strike is: the one at n, of the first i
pub record NearestOf (spot : Float) (strikes : List Float) (i n : ℕ) : Type 0 where
  pub within : n < i
  pub none_nearer : (j : ℕ) → j < i → magnitude (get_or strikes j nan ⊖ spot) ≺ magnitude (get_or strikes n nan ⊖ spot) ≡ false
  pub below_farther : (j : ℕ) → j < n → magnitude (get_or strikes n nan ⊖ spot) ≺ magnitude (get_or strikes j nan ⊖ spot) ≡ true

abbrev pub IsNearest : Float → List Float → ℕ → Type 0
IsNearest spot strikes n = NearestOf spot strikes (length strikes) n

-- It is the exact distance of the two, rounded once; as far from the spot to the strike as back; and no strike is nearer than one at the spot.
pub record Away (spot strike : Float) : Type 0 where
  pub rounded : finite spot ≡ true → finite strike ≡ true → T (fits binary64 spot) → T (fits binary64 strike)
      → away_from spot strike ≡ round binary64 false (distance spot strike) (2 ^ 1074)
  pub turns : away_from spot strike ≡ away_from strike spot
  pub at_spot : finite spot ≡ true → away_from spot strike ≺ away_from spot spot ≡ false

-- Of every axis and every spot, not-a-number and infinity included.
pub record Nearest (spot : Float) (strikes : List Float) : Type 0 where
  pub is : is_axis strikes ≡ true → IsNearest spot strikes (nearest spot strikes)
  -- and no other index is
  pub only : (n : ℕ) → IsNearest spot strikes n → n ≡ nearest spot strikes
  pub strike : is_axis strikes ≡ true → nearest_strike spot strikes ≡ get_or strikes (nearest spot strikes) nan
  pub no_strike : is_axis strikes ≡ false → nearest_strike spot strikes ≡ nan
  -- 19 does not hold of a strike of the axis, nor so of this one
  pub on_axis : is_axis strikes ≡ true → (n : ℕ) → n < length strikes → inside strikes (get_or strikes n nan) ≡ true
  pub inside_axis : is_axis strikes ≡ true → inside strikes (nearest_strike spot strikes) ≡ true

-- ---- a read at a strike of the axis
-- Its checks: 2, 15, 18 and 20. 19 cannot hold of it.
unfoldable pub axis_refusal : List Float → List Float → List Float → ℕ → ℕ → Float → Bool → ℕ
axis_refusal strikeAxis expiryAxis grid strikes expiries expiry gap =
    first (ltb 64 strikes || ltb 32 expiries) 2
    (first (ltb (length strikeAxis) 64 || ltb (length expiryAxis) 32 || ltb (length grid) 2048) 15
    (first (not (is_axis (take strikes strikeAxis) && is_axis (take expiries expiryAxis))) 18
    (first (not (inside (take expiries expiryAxis) expiry) || gap) 20
    none)))

-- The reads of both sentences are such reads: of document 01's at index n/2, and of the nearest strike.
pub record AtAxis (K E grid : List Float) (strikes expiries : ℕ) (expiry : Float) (gap : Bool) : Type 0 where
  pub middle : read_refusal K E grid strikes expiries (middle_strike K strikes) expiry gap ≡ axis_refusal K E grid strikes expiries expiry gap
  pub nearest : (spot : Float)
      → read_refusal K E grid strikes expiries (nearest_strike spot (take strikes K)) expiry gap ≡ axis_refusal K E grid strikes expiries expiry gap
  pub never_19 : axis_refusal K E grid strikes expiries expiry gap ≡ 19 → ⊥
