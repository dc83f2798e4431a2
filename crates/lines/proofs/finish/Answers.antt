-- `lines::finish`: a last line is answered, or there is none. Assumes nothing.
use mathlib.Core.Path.{◌≡◌, sym, ◌∙◌}
use native.Mathlib.Omega.{arith}
use borrow.Author.Rules.{rules}
use lib.ListN.{length}
use Rattle.book.specs.Lent.{columns_held}
use Rattle.hexlines.specs.Lines.{cap}
use Rattle.hexlines.proofs.Counting.{begun_none, seen_none}
use Rattle.protocol.proofs.Going.{goes_last, goes_none}
use Rattle.lines.proofs.Leaving.{begun, end_finished}
use Rattle.lines.proofs.finish.Goals as goal

pub returns-then-lines-eq0-clause-heard : goal.returns-then-lines-eq0-clause-heard
returns-then-lines-eq0-clause-heard c =
    let a = c.args in
    let whole : length a.state.line.bytes ≡ cap = search rules in
    let at = begun a.state (columns_held a.columns.now) a.out.now in
    let none = seen_none a.state.line whole (sym c.begun-lines.ensures ∙ c.if-lines-eq0.true) in
    rw c.no_line.ensures
    (end_finished a.state (columns_held a.columns.now) a.out.now c.begun-lines.result _ c.begun-lines.ensures (omega arith) (goes_none at none (omega arith)))

pub returns-clause-heard : goal.returns-clause-heard
returns-clause-heard c =
    let a = c.args in
    let whole : length a.state.line.bytes ≡ cap = search rules in
    let at = begun a.state (columns_held a.columns.now) a.out.now in
    end_finished a.state (columns_held a.columns.now) a.out.now c.begun-lines.result _ c.begun-lines.ensures (omega arith)
    (goes_last at _ whole (λ z. c.if-lines-eq0.false (c.begun-lines.ensures ∙ begun_none a.state.line z)) c.end_line.ensures.ended)
