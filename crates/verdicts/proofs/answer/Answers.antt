-- `verdicts::answer`: by the check that holds, or by the terms where none does. Assumes nothing.
use mathlib.Core.Path.{sym, ◌∙◌}
use Rattle.ledger.specs.Model.{bsm}
use Rattle.verdicts.proofs.Records.{all_pass}
use Rattle.verdicts.proofs.Offering.{by_terms, by_terms_counted}
use Rattle.verdicts.proofs.answer.Goals as goal

pub solve-requires : goal.solve-requires
solve-requires c = let a = c.args in let w = all_pass a.short a.b a.o (sym c.in_ok-check_offer.ensures) in (w.entry.sound, w.own)

pub returns-clause-outcome : goal.returns-clause-outcome
returns-clause-outcome c = let a = c.args in c.solve.ensures.outcome ∙ by_terms bsm a.short a.b a.o (sym c.in_ok-check_offer.ensures)

pub returns-clause-counted : goal.returns-clause-counted
returns-clause-counted c = let a = c.args in by_terms_counted bsm a.short a.b a.o (sym c.in_ok-check_offer.ensures) _ c.solve.ensures.ended
