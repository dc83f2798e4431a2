-- What is proved of these definitions beside the contracts of the code (proofs/Claims.antt).
use Rattle.std.specs.Prelude.{ℕ, ◌*◌, ◌≤◌, ◌<◌, ◌≡◌, List, [], ◌∷◌, ◌++◌, map, Float, length, Option, Some, None}
use Rattle.std.specs.Float.{nan}
use Rattle.blackscholes.specs.declared.OptionType.TheVariants as OptionType
use Rattle.ledger.specs.Model.{bsm}
use Rattle.ledger.specs.declared.Opening.{Opening}
use Rattle.ledger.specs.declared.Offer.{Offer}
use Rattle.ledger.specs.declared.Terms.{Terms}
use Rattle.ledger.specs.declared.Terms.TheVariants.{Volatility, Price}
use Rattle.ledger.specs.Book.{Columns, zero_book, fresh, open_refusal}
use Rattle.ledger.specs.Fold.{after}
use Rattle.ledger.specs.Claim.{Ledger, hear}
use Rattle.limits.specs.Checks.{none}
use Rattle.hexlines.specs.Session.{book_after, output, joined}
use Rattle.hexlines.specs.Claims.{Streamed}
use Rattle.hexlines.specs.declared.Frame.{Frame}
use Rattle.hexlines.specs.declared.Frame.TheVariants.{Open, Call, Put, Vol, Read}
use Rattle.protocol.specs.Hear.{ledger, hears}
use Rattle.protocol.specs.Calls.{fresh as noState, turned}
use Rattle.protocol.specs.Turns.{count_of, HadRoom, Held, holds, held_after, written}
use Rattle.protocol.specs.declared.State.{State}

-- Parts of the input as reads give them: no part is empty, and none longer than a read.
abbrev pub Reads : ℕ → List (List ℕ) → Type 0
Reads most [] = Unit {0}
Reads most (part ∷ parts) = (0 < length part) × (length part ≤ most) × Reads most parts

-- The line that says an offer.
abbrev pub line_of_terms : Float → Float → Terms → Frame
line_of_terms strike expiry (Volatility v) = Vol strike expiry v
line_of_terms strike expiry (Price OptionType.Call price) = Call strike expiry price
line_of_terms strike expiry (Price OptionType.Put price) = Put strike expiry price

abbrev pub line_of_offer : Offer → Frame
line_of_offer o = line_of_terms o.strike o.expiry o.terms

-- A number of document 01's table, from which 14 left with S-10, or none.
abbrev pub Tabled : ℕ → Type 0
Tabled n = (n ≤ 21) × (n ≡ 14 → ⊥)

pub record Program : Type 0 where
  -- For every way of cutting the input into chunks, what is written is the answers to the frames of its lines, 19 bytes a line.
  pub streamed : Streamed hears
  -- And so it is of the turns that the program makes, whatever columns and buffer held at first: those of its reads, then one of a read that gives
  -- nothing, which is the last. The buffer has 19 bytes for each byte of a read: `desk` reads 4,096 and lends 77,824.
  pub turns : (most : ℕ) (c : Columns) (out : List ℕ) (parts later : List (List ℕ)) → 0 < most → Reads most parts → 19 * most ≤ length out →
      written (holds noState c out) (parts ++ [] ∷ later) ≡ output hears (ledger zero_book c) (joined parts)
  -- And each turn gets what the last one left: what is written for the rest of the input comes of what is held after the parts before it.
  pub handed_on : (most : ℕ) (h : Held) (parts later : List (List ℕ)) → Reads most parts →
      written h (parts ++ later) ≡ written h parts ++ written (held_after h parts) later
  -- Such a buffer is never too short, and no turn writes past any.
  pub roomy : (s : State) (c : Columns) (part out : List ℕ) → 19 * length part ≤ length out → 19 ≤ length out →
      HadRoom (turned s c part out).left.fed.text
  pub within : (s : State) (c : Columns) (part out : List ℕ) →
      count_of (turned s c part out).left.fed.text ≤ length (turned s c part out).left.out
  -- "Two decimal digits of answer" are enough: a number of the table. A line that cannot be used gets 21.
  pub numbers : (l : Ledger) (f : Option Frame) → Tabled (hears l f).number
  pub bad_21 : (l : Ledger) → (hears l None).number ≡ 21
  -- 20 and 21 change neither record nor columns.
  pub read_only : (l : Ledger) (strike expiry : Float) → (hears l (Some (Read strike expiry))).book ≡ l
  pub bad_only : (l : Ledger) → (hears l None).book ≡ l
  -- "20: strike, expiry": the strike comes first. A blank one is never answered by 20, which is the expiry's number and that of a gap.
  pub blank_strike : (l : Ledger) (expiry : Float) → (hears l (Some (Read nan expiry))).number ≡ 20 → ⊥
  -- A refused opening leaves the record of zeros; an accepted one a fresh book. The columns stay.
  pub shut : (l : Ledger) (o : Opening) → (open_refusal o ≡ none → ⊥) → (hears l (Some (Open o.spot o.rate))).book ≡ ledger zero_book l.columns
  pub opened : (l : Ledger) (o : Opening) → open_refusal o ≡ none → (hears l (Some (Open o.spot o.rate))).book ≡ ledger (fresh o) l.columns
  -- Lines of offers are heard as demand 3's list is: its claim holds of the record and the columns that the program holds after them.
  pub tray : (l : Ledger) (os : List Offer) → book_after hears l (map (λ o. Some (line_of_offer o)) os) ≡ after (hear bsm) l os
