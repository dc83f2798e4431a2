-- What is lent for the answers, as the lists that the definitions of crate `trays` speak of.
use Rattle.std.specs.Prelude.{◌≡◌}
use Rattle.trays.specs.Tray as tray
use Rattle.batch.specs.declared.Answers.{Answers}

abbrev pub answers_in : Answers → tray.Answers
answers_in a = tray.answers a.numbers.now a.evidence.now

-- The same memory is lent on.
pub record SameAnswers (a b : Answers) : Type 0 where
  pub numbers : a.numbers.ghost_name ≡ b.numbers.ghost_name
  pub evidence : a.evidence.ghost_name ≡ b.evidence.ghost_name
