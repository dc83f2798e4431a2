-- What the program holds between two turns: its state, and what its memory has.
use Rattle.book.specs.Lent.{columns_held}
use Rattle.protocol.specs.Turns.{Held, holds}
use Rattle.protocol.specs.declared.State.{State}
use Rattle.desk.specs.declared.Memory.{Memory}

abbrev pub held : State → Memory → Held
held s m = holds s (columns_held m.columns) m.out
