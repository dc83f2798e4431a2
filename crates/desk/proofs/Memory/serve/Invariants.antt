-- `desk::Memory::serve`: what is held is what turns on the parts read so far leave. Assumes nothing.
use Rattle.std.specs.Prelude.{true}
use Rattle.book.specs.Lent.{SameColumns}
use Rattle.protocol.specs.Calls.{fresh}
use Rattle.desk.specs.Served.{Served}
use Rattle.desk.specs.Held.{held}
use Rattle.desk.proofs.Memory.serve.Given as goal

abbrev pub invariant-loop : goal.invariant-loop
invariant-loop l =
    record {
      same_memory : SameColumns l.self.columns l.initial.self.columns;
      served : Served 4096 (held fresh l.initial.self) (held l.state l.self) true;
    }
