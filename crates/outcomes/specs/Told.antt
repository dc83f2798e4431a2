-- Of an answer whose refusals are told by numbers, any numbers: the number, and what the answer says in document 01's terms.
use Rattle.std.specs.Prelude.{ℕ, ◌≡◌, Result, Ok, Err}
use Rattle.limits.specs.declared.Refusal.{Refusal}
use Rattle.limits.specs.Checks.{none}
use Rattle.limits.specs.Outcome.{Outcome, done, refused}
use Rattle.limits.specs.Refusals.{number, number_in, outcome_with}

abbrev pub told_number : {T E : Type 0} → (E → ℕ) → Result T E → ℕ
told_number told (Ok x) = none
told_number told (Err refusal) = told refusal

-- With the values that stand beside a refusal's number.
abbrev pub told_outcome : {T E : Type 0} → (E → ℕ) → (E → T) → Result T E → Outcome T
told_outcome told zeros (Ok x) = done x
told_outcome told zeros (Err refusal) = refused (told refusal) (zeros refusal)

pub record Told : Type 1 where
  -- of any number, that number
  pub any_number : (T : Type 0) (n : ℕ) → told_number {T = T} (λ m. m) (Err n) ≡ n
  pub any_refused : {T : Type 0} (zeros : T) (n : ℕ) → told_outcome (λ m. m) (λ _. zeros) (Err n) ≡ refused n zeros
  -- of document 01's twenty, what `limits` says of them
  pub table_number : {T : Type 0} (answer : Result T Refusal) → told_number number answer ≡ number_in answer
  pub table_outcome : {T : Type 0} (zeros : T) (answer : Result T Refusal) → told_outcome number (λ _. zeros) answer ≡ outcome_with zeros answer
