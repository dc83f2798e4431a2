-- What document 01's rule fixes of two strikes, or two expiries, that lie a hair apart, and what it leaves to the rest of the tray.
use Rattle.std.specs.Prelude.{ℕ, ◌+◌, ◌*◌, ◌^◌, ◌≡◌, true, false, get_or, Float}
use mathlib.Core.List.{List, [], ◌∷◌, map, Memᴰ}
use Rattle.std.specs.Float.{nan, binary64}
use Rattle.std.specs.Float.Ieee.{of_bits, to_bits}
use Rattle.floats.specs.Operators.{decimal, ◌⊖◌, ◌≺◌}
use Rattle.chart.specs.Quotes.{Quote}
use Rattle.chart.specs.Axis.{axis, place}

-- The axis value that takes x.
abbrev pub taker : List Float → Float → Float
taker values x = get_or (axis values) (place (axis values) x) nan

-- Of values that are finite and above 0, whatever else is among them, a hair being 1e-12:
pub record Sharing (values : List Float) : Type 0 where
  -- a value belongs to an axis value that is not above it and less than a hair below it,
  pub not_above_lem : (x : Float) → Memᴰ x values → x ≺ taker values x ≡ false
  pub under_a_hair : (x : Float) → Memᴰ x values → x ⊖ taker values x ≺ decimal 1 1000000000000 ≡ true
  -- so that two values that are a hair or more apart never share one.
  pub never_far : (x y : Float) → Memᴰ x values → Memᴰ y values → y ≺ x ≡ false → place (axis values) x ≡ place (axis values) y
      → y ⊖ x ≺ decimal 1 1000000000000 ≡ true

-- Of the quotes of a build, by column and by row.
pub record Shared (qs : List Quote) : Type 0 where
  pub columns : Sharing (map (λ (q : Quote). q.strike) qs)
  pub rows : Sharing (map (λ (q : Quote). q.expiry) qs)

-- Two values less than a hair apart share one or not by which values lie below them: 100 + 2^-40 and 100 + 2^-39 do, and beside 100 they do not.
abbrev pub lower : Float
lower = decimal (100 * 2 ^ 40 + 1) (2 ^ 40)

abbrev pub upper : Float
upper = decimal (100 * 2 ^ 39 + 1) (2 ^ 39)

abbrev pub places_of : List Float → List ℕ
places_of values = place (axis values) lower ∷ place (axis values) upper ∷ []

pub record ByTheTray : Type 0 where
  pub two_alone : places_of (lower ∷ upper ∷ []) ≡ 0 ∷ 0 ∷ []
  pub beside_a_hundred : places_of (lower ∷ upper ∷ decimal 100 1 ∷ []) ≡ 0 ∷ 1 ∷ []

-- From below: the last f64 less than 1e-12 above 0.000001 shares its place, and the next one has its own.
abbrev pub low : Float
low = decimal 1 1000000

abbrev pub within_a_hair : Float
within_a_hair = of_bits binary64 (to_bits binary64 low + 4722366482)

abbrev pub past_a_hair : Float
past_a_hair = of_bits binary64 (to_bits binary64 low + 4722366483)

pub record ToTheHair : Type 0 where
  pub shares : place (axis (low ∷ within_a_hair ∷ [])) within_a_hair ≡ 0
  pub parts : place (axis (low ∷ past_a_hair ∷ [])) past_a_hair ≡ 1
