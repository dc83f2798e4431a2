-- How a host is told an outcome: a call returns 0 and writes the values, or returns document 01's number and writes the refusal's zeros.
use Rattle.std.specs.Prelude.{ℕ, List, eqb, Float, if◌then◌else◌}
use Rattle.limits.specs.Checks.{none}
use Rattle.limits.specs.Outcome.{Outcome, done, refused}
use Rattle.brent.specs.declared.Solution.{Solution}
use Rattle.ledger.specs.Rows.{figures_of}
pub use Rattle.ledger.specs.Rows.{greeks_entries, money_entries}
unfoldable pub use Rattle.ledger.specs.Rows.{option_of}

-- What a returned number and the values written mean. Of each outcome there is one number and one writing.
unfoldable pub told : {X : Type 0} → ℕ → X → Outcome X
told number values = if eqb number none then done values else refused number values

-- The outcome with its values in the form in which they are written.
unfoldable pub over : {X Y : Type 0} → (X → Y) → Outcome X → Outcome Y
over f (done x) = done (f x)
over f (refused number x) = refused number (f x)

-- ---- values, as they are written
-- The solver's four figures in an array, and its evaluations beside them.
pub record Written : Type 0 where
  pub values : List Float
  pub evaluations : ℕ

abbrev pub written : List Float → ℕ → Written
written values evaluations = record { values = values; evaluations = evaluations }

abbrev pub solved_written : Solution → Written
solved_written x = written (figures_of x) x.evaluations
