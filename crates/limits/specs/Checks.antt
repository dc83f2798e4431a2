-- Document 01: "Each call makes those checks below that concern its inputs and stops at the first that holds; the number is given in no other circumstance."
use Rattle.std.specs.Prelude.{ℕ, Bool, if◌then◌else◌}

-- A line of a call's checks: the number where the check holds, else what the checks after it say.
unfoldable pub first : Bool → ℕ → ℕ → ℕ
first holds number rest = if holds then number else rest

-- No check holds. Document 01's numbers start at 1.
abbrev pub none : ℕ
none = 0
