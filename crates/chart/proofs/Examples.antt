-- Document 01's desk examples of the surface, by computation. Assumes nothing.
use Prim.Native.Nat.{ℕ, ◌+◌, ◌*◌, ◌^◌}
use mathlib.Core.Path.{◌≡◌, refl}
use mathlib.Core.List.{List, [], ◌∷◌}
use lib.ListN.{get_or}
use lib.Ieee.{Float, sub, lt, add, div, round}
use Rattle.floats.specs.Operators.{decimal}
use Rattle.floats.specs.Values.{magnitude}
use Rattle.grid.specs.Search.{first_where}
use Rattle.chart.specs.Quotes.{Quote}
use Rattle.chart.specs.Axis.{axis, insert, sorted_into, kept_after, thinned, near}
use Rattle.chart.specs.Cells.{axes, counted, count, added, cell, source, leftward, rightward}

-- 100, 100 + 2^-40 and 100 + 2^-39
abbrev hundred : Float
hundred = decimal 100 1

abbrev hundred_40 : Float
hundred_40 = decimal (100 * 2 ^ 40 + 1) (2 ^ 40)

abbrev hundred_39 : Float
hundred_39 = decimal (100 * 2 ^ 39 + 1) (2 ^ 39)

abbrev quoted : Float → Float → Quote
quoted strike volatility = record { strike = strike; expiry = decimal 1 2; volatility = volatility }

-- "Strikes 100 and 100 + 2^-40: one column"
pub one_column : axis (hundred ∷ hundred_40 ∷ []) ≡ hundred ∷ []
unfolding thinned sorted_into insert kept_after lt sub round
one_column = refl

-- "100 and 100 + 2^-39: two."
pub two_columns : axis (hundred ∷ hundred_39 ∷ []) ≡ hundred ∷ hundred_39 ∷ []
unfolding thinned sorted_into insert kept_after lt sub round
two_columns = refl

-- "All three: two, counts 2 and 1."
pub three_strikes : axis (hundred_39 ∷ hundred_40 ∷ hundred ∷ []) ≡ hundred ∷ hundred_39 ∷ []
unfolding thinned sorted_into insert kept_after lt sub round
three_strikes = refl

abbrev all_three : List Quote
all_three = quoted hundred (decimal 1 4) ∷ quoted hundred_40 (decimal 1 4) ∷ quoted hundred_39 (decimal 1 4) ∷ []

pub three_counts : count (axes all_three) 0 0 all_three ∷ count (axes all_three) 0 1 all_three ∷ [] ≡ 2 ∷ 1 ∷ []
unfolding axes counted first_where near magnitude thinned sorted_into insert kept_after lt sub round
three_counts = refl

-- "0.25 and 0.5 in one cell hold 0.375."
abbrev two_in_one : List Quote
two_in_one = quoted hundred (decimal 1 4) ∷ quoted hundred (decimal 1 2) ∷ []

pub one_cell : cell (axes two_in_one) two_in_one 0 0 ≡ decimal 3 8
unfolding cell source leftward rightward axes counted added first_where near magnitude thinned sorted_into insert kept_after lt sub add div round
one_cell = refl

-- "the nearest counted cell to its left in the row, else to its right": of counts 1, 0, 0, 1 the third takes the first, though the last stands nearer
abbrev ends_counted : ℕ → ℕ
ends_counted k = get_or (1 ∷ 0 ∷ 0 ∷ 1 ∷ []) k 0

pub left_first : source ends_counted 4 2 ≡ 0
unfolding source leftward rightward
left_first = refl
