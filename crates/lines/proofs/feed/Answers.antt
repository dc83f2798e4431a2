-- `lines::feed`: a line that is taken and ended is one more that was heard; at the end the rest is held. Assumes nothing.
use Rattle.std.proofs.Common.{rules}
use native.Mathlib.Omega.{arith}
use Rattle.book.specs.Lent.{columns_held}
use Rattle.lines.specs.Moves.{place}
use Rattle.protocol.proofs.Going.{hearing_line, hearing_rest}
use Rattle.lines.proofs.Leaving.{chunk_fed}
use Rattle.lines.proofs.feed.Goals as goal

pub loop-preserved : goal.loop-preserved
loop-preserved c =
    let l = c.loop in
    let before = place l.p (columns_held l.columns) l.out in
    record {
      same_memory = search rules;
      hearing = hearing_line _ before _ c.args.chunk.now l.from l.counter _ c.take_line-taken.ensures (omega arith) l.invariant.hearing
          c.end_line.ensures.ended;
    }

pub returns-clause-heard : goal.returns-clause-heard
returns-clause-heard c =
    let a = c.args in
    let l = c.loop in
    let last = place l.p (columns_held l.columns) l.out in
    chunk_fed a.state (columns_held a.columns.now) a.chunk.now a.out.now c.count_lines-lines.result _ c.count_lines-lines.ensures (omega arith)
    (hearing_rest _ last a.chunk.now l.from l.counter _ c.take_line-rest.ensures (omega arith) l.invariant.hearing)
