-- The batch call: a fresh book hears a whole list from lent slices and is built. Its promise is demand 3's claim about the code itself.
use Rattle.std.specs.Prelude.{ℕ, suc, ◌≡◌, Bool, List, [], ◌∷◌, map, eqb, length, take, get_or, set, Float, Result, Ok, Err, if◌then◌else◌}
use Rattle.limits.specs.Checks.{none}
use Rattle.limits.specs.Outcome.{Outcome, refused}
use Rattle.limits.specs.Refusals.{number}
use Rattle.ledger.specs.declared.Unopened.{Unopened}
use Rattle.brent.specs.declared.Solution.{Solution}
use Rattle.grid.specs.Layout.{values}
use Rattle.ledger.specs.Model.{bsm}
use Rattle.ledger.specs.declared.Opening.{Opening}
use Rattle.ledger.specs.Book.{Columns, fresh, zero_book, open_refusal, is_short}
use Rattle.chart.specs.Build.{no_lengths, outcome}
use Rattle.chart.specs.declared.Lengths.{Lengths}
use Rattle.ledger.specs.Build.{Buffers, build_outcome, buffers_after}
use Rattle.ledger.specs.Fold.{after, along}
pub use Rattle.ledger.specs.Rows.{kind_of, terms_of, figures_of, shortest}
unfoldable pub use Rattle.ledger.specs.Rows.{offer_of, numbers_of, evidence_of}
use Rattle.ledger.specs.Claim.{Ledger, hear, reply, tallied, Agrees, BuildClaim}
use Rattle.ledger.specs.declared.Book.{Book}
use Rattle.ledger.specs.declared.Offer.{Offer}
use Rattle.trays.specs.declared.Tray.{Tray}

-- ---- the offers, each a row of `kinds` and one of `figures`
-- The first n offers of the slices.
abbrev pub offer_at : List (List Bool) → List (List Float) → ℕ → Offer
offer_at kinds figures i = offer_of (get_or kinds i []) (get_or figures i [])

abbrev pub offers : List (List Bool) → List (List Float) → ℕ → List Offer
offers kinds figures n = values (offer_at kinds figures) n 0

-- ---- the answers: one entry after the other from place i on, the rest of the list as it was
unfoldable pub written : {X : Type 0} → ℕ → List X → List X → List X
written i [] was = was
written i (x ∷ xs) was = written (suc i) xs (set was i x)

pub record Answers : Type 0 where
  pub numbers : List (List ℕ)
  pub evidence : List (List Float)

abbrev pub answers : List (List ℕ) → List (List Float) → Answers
answers numbers evidence = record { numbers = numbers; evidence = evidence }

-- The answers to a list of offers, from place i on.
abbrev pub handed_out : ℕ → List (Outcome Solution) → Answers → Answers
handed_out i rs a = answers (written i (map numbers_of rs) a.numbers) (written i (map evidence_of rs) a.evidence)

-- What hearing a list leaves: the ledger, and an answer for each offer.
pub record HearsAll (l : Ledger) (os : List Offer) (a : Answers) (b' : Book) (c' : Columns) (a' : Answers) : Type 0 where
  pub ledger : record { book = b'; columns = c' } ≡ after (hear bsm) l os
  pub answers : a' ≡ handed_out 0 (along (hear bsm) (reply bsm) l os) a

-- ---- the whole call
-- All that is lent to be written: an answer for each offer, the columns, the surface.
pub record Lent : Type 0 where
  pub answers : Answers
  pub columns : Columns
  pub buffers : Buffers

abbrev pub lent : Answers → Columns → Buffers → Lent
lent answers columns buffers = record { answers = answers; columns = columns; buffers = buffers }

abbrev pub heard_offers : List (List Bool) → List (List Float) → Answers → List Offer
heard_offers kinds figures a = offers kinds figures (shortest (length kinds) (length figures) (length a.numbers) (length a.evidence))

-- The opening is refused, or the list was heard: the record, and what its build answers.
pub data TrayReply : Type 0 where
  shut : ℕ → Book → TrayReply
  heard : Book → Outcome Lengths → TrayReply

-- "A refused opening returns a record of zeros."
unfoldable pub reply_of : Result Tray Unopened → TrayReply
reply_of (Ok tray) = heard tray.book (outcome tray.built)
reply_of (Err unopened) = shut (number unopened.refusal) unopened.book

-- What is written of an answer: kept, refused, heard and evaluations of its record, and the lengths of its build. A refused opening builds nothing.
unfoldable pub book_of : TrayReply → Book
book_of (shut number book) = book
book_of (heard book built) = book

unfoldable pub built_of : TrayReply → Outcome Lengths
built_of (shut number book) = refused number no_lengths
built_of (heard book built) = built

module _ (opening : Opening) (os : List Offer) (l : Lent) where
  abbrev pub first_ledger : Ledger
  first_ledger = record { book = fresh opening; columns = l.columns }

  abbrev pub last_ledger : Ledger
  last_ledger = after (hear bsm) first_ledger os

  -- "A refused opening returns a record of zeros."
  unfoldable pub tray_reply : TrayReply
  tray_reply =
      if eqb (open_refusal opening) none then heard last_ledger.book (build_outcome last_ledger.book last_ledger.columns l.buffers)
      else shut (open_refusal opening) zero_book

  unfoldable pub lent_after : Lent
  lent_after =
      if eqb (open_refusal opening) none
      then record {
        answers = handed_out 0 (along (hear bsm) (reply bsm) first_ledger os) l.answers;
        columns = last_ledger.columns;
        buffers = buffers_after last_ledger.book last_ledger.columns l.buffers;
      }
      else l

  -- Demand 3, of the record returned, of the columns, surface and answers left in lent memory: `replies` is what each offer was answered.
  pub record TrayClaim (b : Book) (built : Outcome Lengths) (l' : Lent) : Type 0 where
    pub replies : List (Outcome Solution)
    pub handed_out : l'.answers ≡ handed_out 0 replies l.answers
    pub list : Agrees bsm opening l.columns os replies (record { book = b; columns = l'.columns }) (λ n. (after (hear bsm) first_ledger (take n os)).book)
    pub build : BuildClaim (tallied bsm opening l.columns os).quotes l.buffers (is_short l.columns) built l'.buffers

  abbrev pub Claimed : TrayReply → Lent → Type 0
  Claimed (shut number book) l' = ⊥
  Claimed (heard book built) l' = TrayClaim book built l'

  -- Answer and every lent entry; and where the opening is accepted, demand 3 of them.
  pub record QuotesTray (r : TrayReply) (l' : Lent) : Type 0 where
    pub answers : r ≡ tray_reply
    pub lent : l' ≡ lent_after
    pub claim : open_refusal opening ≡ none → Claimed r l'
