-- What a read of a lent surface answers: `reading` of its axes, its grid and the sizes in use.
use Rattle.std.specs.Prelude.{ℕ, false, List, take, Float}
use Rattle.limits.specs.Outcome.{Outcome}
use Rattle.grid.specs.Readings.{read_refusal, reading}
use Rattle.readings.specs.declared.Surface.{Surface}

abbrev pub reading_of : Surface → Float → Float → Outcome Float
reading_of s strike expiry = reading s.strike_axis.now s.expiry_axis.now s.grid.now s.strikes s.expiries strike expiry

-- The strikes and the expiries in use.
abbrev pub strikes_of : Surface → List Float
strikes_of s = take s.strikes s.strike_axis.now

abbrev pub expiries_of : Surface → List Float
expiries_of s = take s.expiries s.expiry_axis.now

-- The number that the checks of a read say, as far as no cell is read.
abbrev pub refusal_of : Surface → Float → Float → ℕ
refusal_of s strike expiry = read_refusal s.strike_axis.now s.expiry_axis.now s.grid.now s.strikes s.expiries strike expiry false
