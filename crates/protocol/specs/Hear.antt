-- Document 01, 'Hexadecimal lines': what the quote book answers to each frame, and what the record and the columns are after it.
use Rattle.std.specs.Prelude.{replicate, Float, Option, Some, None}
use Rattle.floats.specs.Operators.{decimal}
use Rattle.limits.specs.Checks.{none}
use Rattle.limits.specs.Outcome.{Outcome, done, refused, number_of, values_of}
use Rattle.limits.specs.Refusals.{outcome_with}
use Rattle.brent.specs.declared.Solution.{Solution}
use Rattle.blackscholes.specs.declared.OptionType.TheVariants as OptionType
use Rattle.grid.specs.Readings.{reading}
use Rattle.chart.specs.declared.Lengths.{Lengths}
use Rattle.ledger.specs.Model.{bsm, volatility, priced}
use Rattle.ledger.specs.declared.Opening.{Opening}
use Rattle.ledger.specs.Book.{Columns, opened}
use Rattle.ledger.specs.Build.{Buffers, buffers_of, build_outcome, buffers_after}
use Rattle.ledger.specs.Claim.{Ledger, hear, reply}
use Rattle.ledger.specs.declared.Book.{Book}
use Rattle.ledger.specs.declared.Offer.{Offer}
use Rattle.hexlines.specs.Session.{Told}
use Rattle.hexlines.specs.declared.Frame.{Frame}
use Rattle.hexlines.specs.declared.Frame.TheVariants.{Open, Call, Put, Vol, Read}
use Rattle.protocol.specs.declared.Asked.{Asked}
use Rattle.protocol.specs.declared.Said.{Said}

-- The record and the columns.
abbrev pub ledger : Book → Columns → Ledger
ledger b c = record { book = b; columns = c }

-- "Two decimal digits of answer (00 for done) and 16 upper-case hexadecimal ones of value: the volatility, the reading, else zeros."
unfoldable pub said : {X : Type 0} → Ledger → (X → Float) → Outcome X → Told Ledger
said l value (done x) = record { book = l; number = none; value = value x }
said l value (refused number x) = record { book = l; number = number; value = decimal 0 1 }

-- ---- 10: "spot, rate (a fresh book)"
-- "A refused opening returns a record of zeros", and the program then holds it. The columns stay as they are: a fresh book has kept none of their entries.
-- There is no value.
unfoldable pub opens : Ledger → Opening → Told Ledger
opens l o = said (ledger (values_of (opened o)) l.columns) (λ b. decimal 0 1) (opened o)

-- ---- "11 call price, 12 put price, 13 volatility: strike, expiry, value"
-- The book hears the offer. The value is the volatility, offered or solved.
unfoldable pub offers : Ledger → Offer → Told Ledger
offers l o = said (hear bsm l o) (λ (x : Solution). x.volatility) (reply bsm l o)

-- ---- "20: strike, expiry (builds, reads)"
-- A build from nothing: the buffers of a surface, no entry in use.
abbrev pub blank : Buffers
blank = buffers_of (replicate 64 (decimal 0 1)) (replicate 32 (decimal 0 1)) (replicate 2048 (decimal 0 1)) (replicate 2048 0)

-- The read of what was built; a refused build is not read.
unfoldable pub read_of : Buffers → Float → Float → Outcome Lengths → Outcome Float
read_of s strike expiry (done n) = reading s.strikes s.expiries s.grid n.strikes n.expiries strike expiry
read_of s strike expiry (refused number n) = refused number (decimal 0 1)

-- The answer is the first refusal of the two, or the reading. Record and columns stay as they are.
unfoldable pub reads : Ledger → Float → Float → Told Ledger
unfolding read_of
reads l strike expiry =
    said l (λ x. x) (read_of (buffers_after l.book l.columns blank) strike expiry (build_outcome l.book l.columns blank))

-- ---- any frame
-- What it asks for: an offer of any kind is one.
unfoldable pub asked_by : Frame → Asked
asked_by (Open spot rate) = Asked.Open (record { spot = spot; rate = rate })
asked_by (Call strike expiry price) = Asked.Quote (priced OptionType.Call strike expiry price)
asked_by (Put strike expiry price) = Asked.Quote (priced OptionType.Put strike expiry price)
asked_by (Vol strike expiry v) = Asked.Quote (volatility strike expiry v)
asked_by (Read strike expiry) = Asked.Read strike expiry

unfoldable pub answers : Ledger → Asked → Told Ledger
unfolding said opens offers reads
answers l (Asked.Open opening) = opens l opening
answers l (Asked.Quote offer) = offers l offer
answers l (Asked.Read strike expiry) = reads l strike expiry

-- A line that is no frame: 21, "It comes before all others", and nothing changes.
unfoldable pub hears : Ledger → Option Frame → Told Ledger
unfolding asked_by answers
hears l (Some f) = answers l (asked_by f)
hears l None = record { book = l; number = 21; value = decimal 0 1 }

-- ---- what a call answers
-- What was said, with the columns after it.
abbrev pub heard_of : Said → Columns → Told Ledger
heard_of r c = let o = outcome_with (decimal 0 1) r.answer in record { book = ledger r.book c; number = number_of o; value = values_of o }
