-- The twelve desk examples, each by the computation of the crate that it belongs to. Assumes nothing.
use mathlib.Core.Path.{◌≡◌, refl}
use lib.Ieee.{lt, sub, round}
use Rattle.floats.specs.Values.{magnitude}
use Rattle.root.proofs.Examples as root
use Rattle.elementary.proofs.Examples as exponential
use Rattle.gauss.proofs.Examples as normal
use Rattle.brent.proofs.Examples as brent
use Rattle.gaps.proofs.Examples.{row_filled}
use Rattle.grid.specs.Search.{first_where}
use Rattle.chart.proofs.Examples.{one_column, two_columns, one_cell}
use Rattle.chart.specs.Axis.{insert, sorted_into, kept_after, thinned, near}
use Rattle.chart.specs.Cells.{axes, counted}
use Rattle.ledger.specs.Twelve.{Holds, table, column_counts, all_three}
use mathlib.Core.List.{[], ◌∷◌}

three : column_counts all_three ≡ 2 ∷ 2 ∷ 1 ∷ []
unfolding axes counted first_where near magnitude thinned sorted_into insert kept_after lt sub round
three = refl

pub twelve : Holds table
twelve = (
  (root.examples).root_of_a_quarter,
  (
    (exponential.examples).exp_of_zero,
    (
      (exponential.examples).exp_far_below,
      (
        (exponential.examples).ln_of_one,
        (
          (normal.examples).cdf_of_zero,
          (row_filled, (one_cell, (one_column, (two_columns, (three, ((brent.examples).refused_12, ((brent.examples).found_10, tt))))))),
        ),
      ),
    ),
  ),
)
