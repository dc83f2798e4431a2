-- What a build makes cells of, as the definitions of crate `chart` speak of it: two axes, and where the cell of a quote stands.
use Rattle.std.specs.Prelude.{ℕ, get_or}
use Rattle.std.specs.Float.{nan}
use Rattle.chart.specs.Axis.{place}
use Rattle.chart.specs.Cells.{Axes}
use Rattle.chart.specs.Steps.{axes_of}
use Rattle.grid.specs.Layout.{cell_at}
use Rattle.surface.specs.declared.cells.Placed.{Placed}

abbrev pub axes_in : Placed → Axes
axes_in p = axes_of p.strikes.now p.expiries.now

abbrev pub home : Placed → ℕ → ℕ
home p i = cell_at (place p.expiries.now (get_or p.quotes.expiries.now i nan)) (place p.strikes.now (get_or p.quotes.strikes.now i nan))
