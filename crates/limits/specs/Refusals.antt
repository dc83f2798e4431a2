-- Document 01, 'What is turned down, in checking order': the number of each refusal, and what an answer that can be one says in the document's terms.
use Rattle.std.specs.Prelude.{ℕ, ◌≡◌, Result, Ok, Err}
use Rattle.limits.specs.Checks.{none}
use Rattle.limits.specs.Outcome.{Outcome, done, refused}
use Rattle.limits.specs.declared.Refusal.{Refusal}
use Rattle.limits.specs.declared.Refusal.TheVariants as why

-- 14 is not in use, since S-10.
abbrev pub number : Refusal → ℕ
number why.ShortColumn = 1
number why.OutOfBounds = 2
number why.BookClosed = 3
number why.BookFull = 4
number why.Price = 5
number why.Spot = 6
number why.Strike = 7
number why.Expiry = 8
number why.Rate = 9
number why.Volatility = 10
number why.SolverNotFinite = 11
number why.NotBracketed = 12
number why.NoConvergence = 13
number why.ShortBuffer = 15
number why.TooManyStrikes = 16
number why.TooManyExpiries = 17
number why.NoSurface = 18
number why.StrikeRead = 19
number why.ExpiryRead = 20
number why.Malformed = 21

-- No two refusals have one number, and none has that of a call that passes.
pub record Numbers : Type 0 where
  pub different : (a b : Refusal) → number a ≡ number b → a ≡ b
  pub some : (a : Refusal) → number a ≡ none → ⊥

-- The number that a call's checks give: none where they pass.
abbrev pub number_in : {T : Type 0} → Result T Refusal → ℕ
number_in (Ok x) = none
number_in (Err refusal) = number refusal

-- An answer in document 01's terms, with the values that stand beside a number.
abbrev pub outcome_with : {T : Type 0} → T → Result T Refusal → Outcome T
outcome_with zeros (Ok x) = done x
outcome_with zeros (Err refusal) = refused (number refusal) zeros
