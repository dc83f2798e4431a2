-- `host::kite_implied_volatility`: the number, the values and the evaluations are those of the answer. Assumes nothing.
use mathlib.Core.Path.{ap, ◌∙◌}
use Rattle.limits.proofs.Float.{of_bits, round}
use Rattle.brent.specs.Outcome.{outcome_of_implied}
use Rattle.ledger.specs.Book.{end_of}
use Rattle.host.specs.Answers.{over, solved_written}
use Rattle.host.proofs.Told.{told_solved}
use Rattle.host.proofs.kite_implied_volatility.Goals as goal

pub returns : goal.returns
unfolding end_of outcome_of_implied of_bits round
returns c =
    let a = c.implied_volatility-answer in
    rw (c.numbers_of-numbers.ensures, c.evidence_of.ensures)
    (told_solved a.result ∙ ap (over solved_written) (ap end_of (rw c.option_of.ensures at a.ensures)))
