-- What is lent to a build, as the lists that the definitions of crate `chart` speak of.
use Rattle.std.specs.Prelude.{◌≡◌}
use Rattle.chart.specs.Quotes.{Columns}
use Rattle.chart.specs.Build.{Buffers}
use Rattle.admission.specs.declared.Quotes.{Quotes}
use Rattle.admission.specs.declared.SurfaceBuffers.{SurfaceBuffers}

abbrev pub columns_in : Quotes → Columns
columns_in q = record { strikes = q.strikes.now; expiries = q.expiries.now; volatilities = q.volatilities.now }

abbrev pub buffers_in : SurfaceBuffers → Buffers
buffers_in b = record { strikes = b.strike_axis.now; expiries = b.expiry_axis.now; grid = b.grid.now; counts = b.counts.now }

-- The same memory is lent on.
pub record SameBuffers (a b : SurfaceBuffers) : Type 0 where
  pub strike_axis : a.strike_axis.ghost_name ≡ b.strike_axis.ghost_name
  pub expiry_axis : a.expiry_axis.ghost_name ≡ b.expiry_axis.ghost_name
  pub grid : a.grid.ghost_name ≡ b.grid.ghost_name
  pub counts : a.counts.ghost_name ≡ b.counts.ghost_name
