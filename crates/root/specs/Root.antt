-- Document 01, 'Square root': "correctly rounded as IEEE 754 says, stated by whole-number squares."
use Rattle.std.specs.Prelude.{◌≡◌, false, ℕ, zero, suc, ◌+◌, ◌*◌, ◌/◌, ◌^◌, ◌<◌, T, leb, Float, if◌then◌else◌}
use Rattle.std.specs.Float.{nan, inf, fin, binary64}
use Rattle.std.specs.Float.Ieee.{size, odd, fits}
use Rattle.std.specs.Float.Ieee.Positive.{positive}
use Rattle.floats.specs.Values.{not_negative}
use Rattle.floats.specs.Wholes.{units_of}

-- ---- the statement by squares
-- r is the f64 nearest to √v, for a finite v above 0: r is an f64 above 0, and the middle between r and any other f64 y lies on y's side of √v.
-- In units of 2^-1074 the middle is (y + r) / 2 and √v is √(v × 2^1074), and both are doubled and squared. No middle is √v itself, so there are no
-- ties. An f64 below 0 is farther off than 0.0 is. At most one r meets this (`root_unique` of Laws), so that it is the definition.
pub record NearestRoot (v r : Float) : Type 0 where
  pub held : T (fits binary64 r)
  pub sign : T (positive r)
  pub above : (y : Float) → T (fits binary64 y) → T (not_negative y) → units_of r < units_of y
      → 4 * (units_of v * 2 ^ 1074) < (units_of y + units_of r) * (units_of y + units_of r)
  pub below : (y : Float) → T (fits binary64 y) → T (not_negative y) → units_of y < units_of r
      → (units_of y + units_of r) * (units_of y + units_of r) < 4 * (units_of v * 2 ^ 1074)

-- ---- the root, computed
-- The largest r with r × r ≤ n, for n below 4^k: one more binary digit a round.
unfoldable pub whole_root : ℕ → ℕ → ℕ
whole_root zero n = 0
whole_root (suc k) n = let r = 2 * whole_root k (n / 4) in if leb ((r + 1) * (r + 1)) n then r + 1 else r

-- Half of √n, to the nearest whole number, times 2^k units of 2^-1074.
unfoldable pub half_root : ℕ → ℕ → Float
half_root n k = odd 53 false ((whole_root 54 n + 1) / 2) k 1074

-- n units of 2^-1074, n above 0, have the root √(n × 2^1074) units, with (size n + 1075) / 2 binary digits before the point. k of them are dropped,
-- so that 53 are left: the root is √(n × 2^1076 / 4^k) / 2 times 2^k units.
unfoldable pub root_of_units : ℕ → Float
unfolding half_root
root_of_units n = let k = (size n + 969) / 2 in half_root (n * 2 ^ 1076 / 2 ^ (2 * k)) k

-- Zeros keep their sign; below 0 and not-a-number give not-a-number; infinity gives itself.
unfoldable pub sqrt : Float → Float
unfolding root_of_units
sqrt nan = nan
sqrt (inf s) = if s then nan else inf false
sqrt (fin s zero e) = fin s zero e
sqrt (fin s (suc m) e) = if s then nan else root_of_units (units_of (fin s (suc m) e))

-- What `sqrt` promises of its result, however it runs.
pub record SquareRoot (v r : Float) : Type 0 where
  pub equals : r ≡ sqrt v
  pub nearest : T (positive v) → NearestRoot v r
