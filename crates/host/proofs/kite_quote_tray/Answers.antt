-- `host::kite_quote_tray`: the number, the totals and the lengths stand for the answer of the tray below. Assumes nothing.
use Rattle.std.proofs.Common.{rules}
use Rattle.host.proofs.Lending.{quoted_tray, shut_tray}
use Rattle.host.proofs.kite_quote_tray.Goals as goal

pub returns-in-Ok : goal.returns-in-Ok
returns-in-Ok c =
    let t = c.quote_tray-tray in
    let a = t.ensures.same_answers in
    let s = t.ensures.same_columns in
    let z = t.ensures.same_buffers in
    quoted_tray _ _ _ t.new.answers t.new.columns t.new.buffers _ _ _ _ _ _ _ _ _ (search rules) (search rules) (search rules)
    c.in-Ok.tray _ _ c.number_of.ensures c.lengths_of.ensures c.in-Ok.ensures.quotes

pub returns-in-Err : goal.returns-in-Err
returns-in-Err c =
    let t = c.quote_tray-tray in
    let a = t.ensures.same_answers in
    let s = t.ensures.same_columns in
    let z = t.ensures.same_buffers in
    shut_tray _ _ _ t.new.answers t.new.columns t.new.buffers _ _ _ _ _ _ _ _ _ (search rules) (search rules) (search rules)
    c.in-Err.unopened _ c.from.ensures c.in-Err.ensures.quotes
