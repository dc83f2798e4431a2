-- `lines::feed`: a line a turn, and what is left of the chunk is held. Assumes nothing.
use Rattle.book.specs.Lent.{columns_held, SameColumns}
use Rattle.lines.specs.Moves.{place}
use Rattle.protocol.proofs.Going.{Hearing}
use Rattle.lines.proofs.Leaving.{begun}
use Rattle.lines.proofs.feed.Given as goal

abbrev pub invariant-loop : goal.invariant-loop
invariant-loop l =
    record {
      same_memory : SameColumns l.columns l.initial.columns;
      hearing : Hearing (begun l.fn.state (columns_held l.initial.columns) l.initial.out) l.chunk (place l.p (columns_held l.columns) l.out) l.from l.counter;
    }
