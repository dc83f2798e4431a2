-- What the book's and the grid's contracts make of a frame. Assumes nothing.
use Rattle.std.specs.Prelude.{Result, Ok, Err}
use mathlib.Core.Path.{◌≡◌, refl, ap, ◌∙◌}
use lib.Ieee.{Float}
use Rattle.floats.specs.Operators.{decimal}
use Rattle.limits.specs.Outcome.{Outcome}
use Rattle.limits.specs.Refusals.{outcome_with}
use Rattle.limits.specs.declared.Refusal.{Refusal}
use Rattle.brent.specs.declared.Solution.{Solution}
use Rattle.blackscholes.specs.Implied.{outcome_of_implied}
use Rattle.chart.specs.declared.Lengths.{Lengths}
use Rattle.ledger.specs.Model.{bsm}
use Rattle.ledger.specs.Book.{Columns}
use Rattle.ledger.specs.Calls.{Offers}
use Rattle.ledger.specs.Build.{Buffers, BuildsBook}
use Rattle.ledger.specs.Claim.{Ledger, hear}
use Rattle.ledger.specs.declared.Heard.{Heard}
use Rattle.ledger.specs.declared.Offer.{Offer}
use Rattle.protocol.specs.Hear.{ledger, said, offers, blank, read_of, reads, heard_of}
use Rattle.protocol.specs.declared.Said.{Said}

abbrev volatility_in : Solution → Float
volatility_in x = x.volatility

pub offered : (l : Ledger) (o : Offer) (h : Heard) (c : Columns) (r : Said) → Offers bsm l.book l.columns o h c →
    ((k : Columns) → heard_of r k ≡ said (ledger h.book k) (λ (x : Solution). x.volatility) (outcome_of_implied h.answer)) → heard_of r c ≡ offers l o
unfolding offers hear
offered l o h c r f s =
    let led : ledger h.book c ≡ hear bsm l o = rw (f.replies.book, f.columns) in
    s c ∙ ap (λ (z : Ledger). said z volatility_in (outcome_of_implied h.answer)) led ∙ ap (said (hear bsm l o) volatility_in) f.replies.outcome

abbrev itself : Float → Float
itself x = x

-- An answer that is a float, as it is heard.
said_itself : (b : _) (c : Columns) (answer : Result Float Refusal)
    → heard_of (record { book = b; answer = answer }) c ≡ said (ledger b c) itself (outcome_with (decimal 0 1) answer)
unfolding said
said_itself b c (Ok x) = refl
said_itself b c (Err why) = refl

-- What the build answered, and what was read of it.
pub reads_built : (l : Ledger) (strike expiry : Float) (built : Outcome Lengths) (s : Buffers) (answer : Result Float Refusal)
    → BuildsBook l.book l.columns blank built s → outcome_with (decimal 0 1) answer ≡ read_of s strike expiry built
    → heard_of (record { book = l.book; answer = answer }) l.columns ≡ reads l strike expiry
unfolding reads
reads_built l strike expiry built s answer f e = said_itself l.book l.columns answer ∙ ap (said l itself) (e ∙ rw (f.answers, f.buffers))
