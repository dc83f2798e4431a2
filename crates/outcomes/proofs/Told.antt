-- `Told`: an answer told by numbers, any or the twenty. Assumes nothing.
use Rattle.std.specs.Prelude.{Result, Ok, Err}
use mathlib.Core.Path.{◌≡◌, refl}
use Rattle.limits.specs.declared.Refusal.{Refusal}
use Rattle.limits.specs.Refusals.{number, number_in, outcome_with}
use Rattle.outcomes.specs.Told.{told_number, told_outcome, Told}

table_number : {T : Type 0} (answer : Result T Refusal) → told_number number answer ≡ number_in answer
table_number (Ok x) = refl
table_number (Err refusal) = refl

table_outcome : {T : Type 0} (zeros : T) (answer : Result T Refusal) → told_outcome number (λ _. zeros) answer ≡ outcome_with zeros answer
table_outcome zeros (Ok x) = refl
table_outcome zeros (Err refusal) = refl

pub told : Told
told = record {
  any_number = λ T n. refl;
  any_refused = λ zeros n. refl;
  table_number = table_number;
  table_outcome = table_outcome;
}
