-- `host::kite_at_the_money`: the number and both values are those of the answer. Assumes nothing.
use mathlib.Core.Path.{ap, ◌∙◌}
use Rattle.std.proofs.Common.{rules}
use Rattle.ledger.specs.Money.{no_money}
use Rattle.limits.proofs.Float.{of_bits, round}
use Rattle.host.specs.Answers.{over, money_entries}
use Rattle.host.proofs.Told.{told_over}
use Rattle.host.proofs.kite_at_the_money.Goals as goal

pub returns : goal.returns
unfolding of_bits round
returns c =
    rw (c.number_of.ensures, c.values_of-money.ensures)
    (told_over no_money money_entries _ c.default.result (search rules)
    ∙ ap (over money_entries) (rw c.book_of-book.ensures at c.at_the_money-answer.ensures))
