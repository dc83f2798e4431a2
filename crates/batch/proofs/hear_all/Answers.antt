-- `batch::hear_all`: one offer more is heard, and at the end none is left. Assumes nothing.
use mathlib.Core.Path.{ap, ◌∙◌}
use Rattle.ledger.specs.Rows.{numbers_of, evidence_of}
use Rattle.rows.proofs.Told.{of_solver}
use Rattle.trays.proofs.Listening.{read_offer, turn, finished}
use Rattle.std.proofs.Common.{rules}
use Rattle.book.specs.Lent.{columns_held}
use Rattle.batch.specs.Lent.{answers_in}
use Rattle.batch.proofs.hear_all.Goals as goal

pub loop-i-preserved : goal.loop-i-preserved
loop-i-preserved c =
    let at = c.loop-i in
    let o = c.args.offers.now in
    let O = c.offer-heard in
    let s = O.ensures.same_memory in
    let n = c.numbers_of.ensures ∙ ap numbers_of (of_solver O.result.answer) in
    let x = c.evidence_of.ensures ∙ ap evidence_of (of_solver O.result.answer) in
    let a = at.invariant.0 in
    let t = at.invariant.1 in
    let q = c.offer_of.ensures ∙ read_offer o.kinds.now o.figures.now at.i _ _ (search rules) (search rules) in (
      record { numbers = a.numbers; evidence = a.evidence },
      record { strikes = s.strikes ∙ t.strikes; expiries = s.expiries ∙ t.expiries; volatilities = s.volatilities ∙ t.volatilities },
      turn o.kinds.now o.figures.now c.shortest-n.result at.i (record { book = at.b; columns = columns_held at.columns }) _ (answers_in at.answers) _ _
          O.result _ _ _ c.loop-i-test.true q O.ensures.offers n x at.invariant.2,
    )

pub returns-clause-hears : goal.returns-clause-hears
returns-clause-hears c =
    let at = c.loop-i in
    let o = c.args.offers.now in
    let n = c.shortest-n in
    let f = finished o.kinds.now o.figures.now n.result at.i _ (answers_in at.answers) _ _ c.loop-i-test.false at.invariant.2 in
    rw (← n.ensures) (record { ledger = f.0; answers = f.1 })
