-- `exponential::table_l`: the array is the table entry by entry, by computation, and so has the table's rule (Table, Reciprocals). Assumes nothing.
use Rattle.std.proofs.Common.{refl}
use Rattle.elementary.specs.Tables.{odd_number, L, last_l}
use Rattle.elementary.proofs.Table.{entries, nearest_in}
use Rattle.elementary.proofs.Reciprocals.{rules}
use Rattle.exponential.proofs.Definitions.{opened}
use Rattle.exponential.proofs.table_l.Goals as goal

pub returns : goal.returns
unfolding entries L opened
returns c = record { whole = refl; nearest = nearest_in odd_number L last_l _ refl rules.nearest_L }
