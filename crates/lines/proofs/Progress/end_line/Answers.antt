-- `lines::Progress::end_line`: the frame of the line is heard, and its answer put behind the text. Assumes nothing.
use Rattle.book.specs.Lent.{columns_held}
use Rattle.lines.specs.Moves.{place}
use Rattle.protocol.proofs.Going.{line_ended}
use Rattle.lines.proofs.Progress.end_line.Goals as goal

pub returns-clause-ended : goal.returns-clause-ended
returns-clause-ended c =
    let a = c.args in
    line_ended (place a.self.now (columns_held a.columns.now) a.out.now) c.line_frame-frame.result c.hear-said.result _
    c.answer_line-text.result _ _ c.line_frame-frame.ensures c.hear-said.ensures.hears c.answer_line-text.ensures c.put.ensures
    c.no_line.ensures c.requires
