-- `exponential::table_e`: the array is the table entry by entry, by computation, and so has the table's rule (Table, Reciprocals). Assumes nothing.
use Rattle.std.proofs.Common.{refl}
use Rattle.elementary.specs.Tables.{factorial, E, last_e}
use Rattle.elementary.proofs.Table.{entries, nearest_in}
use Rattle.elementary.proofs.Reciprocals.{rules}
use Rattle.exponential.proofs.Definitions.{opened}
use Rattle.exponential.proofs.table_e.Goals as goal

pub returns : goal.returns
unfolding entries E opened
returns c = record { whole = refl; nearest = nearest_in factorial E last_e _ refl rules.nearest_E }
