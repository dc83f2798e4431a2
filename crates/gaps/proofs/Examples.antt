-- Rows and a grid filled, by computation. Assumes nothing.
use mathlib.Core.Path.{◌≡◌, refl}
use mathlib.Core.Bool.{false}
use mathlib.Core.List.{[], ◌∷◌, ◌++◌}
use lib.ListN.{get_or, replicate}
use lib.IntN.{pos, negsuc}
use lib.Ieee.{Float, nan, fin, is_nan, round}
use Rattle.floats.specs.Operators.{decimal}
use Rattle.grid.specs.Layout.{cell_at, values, partly}
use Rattle.grid.specs.Search.{first_where}
use Rattle.gaps.specs.Gaps.{swept, forward, backward, filled, rows_swept, columns_swept, put_column, gaps_filled}

-- 2^-2, 2^-1, 2^0
abbrev quarter : Float
quarter = fin false 1 (negsuc 1)

abbrev half : Float
half = fin false 1 (negsuc 0)

abbrev one : Float
one = fin false 1 (pos 0)

-- "Filling by true distance differs from the sweep": 0.25, gap, gap, 0.5 fills to 0.25, 0.25, 0.25, 0.5.
pub far_value : swept (quarter ∷ nan ∷ nan ∷ half ∷ []) ≡ quarter ∷ quarter ∷ quarter ∷ half ∷ []
unfolding backward forward filled values first_where is_nan
far_value = refl

-- "Row gap, 0.25, gap, 0.5, gap fills to 0.25, 0.25, 0.25, 0.5, 0.5."
five_cells : swept (nan ∷ quarter ∷ nan ∷ half ∷ nan ∷ []) ≡ quarter ∷ quarter ∷ quarter ∷ half ∷ half ∷ []
unfolding backward forward filled is_nan
five_cells = refl

pub row_filled : swept (nan ∷ decimal 1 4 ∷ nan ∷ decimal 1 2 ∷ nan ∷ []) ≡ decimal 1 4 ∷ decimal 1 4 ∷ decimal 1 4 ∷ decimal 1 2 ∷ decimal 1 2 ∷ []
unfolding round
row_filled = five_cells

-- Rows come before columns: under 0.25 and 0.5, gap and 1 fill to 1 and 1.
pub rows_first : get_or (gaps_filled 2 2 (quarter ∷ half ∷ replicate 62 nan ++ nan ∷ one ∷ [])) (cell_at 1 0) nan ≡ one
unfolding rows_swept columns_swept partly put_column values backward forward filled is_nan
rows_first = refl
