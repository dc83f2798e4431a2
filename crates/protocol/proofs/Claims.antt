-- The claims of specs/Claims.antt. Assumes nothing.
use Rattle.std.specs.Prelude.{Some}
use mathlib.Core.Path.{◌≡◌, refl, ap, ◌∙◌}
use mathlib.Core.List.{List, [], ◌∷◌, map}
use borrow.Author.Tests.{eq-eqb, ne_eqb}
use lib.Ieee.{Float}
use Rattle.limits.specs.Checks.{none}
use Rattle.limits.specs.Outcome.{Outcome, done, refused, answered}
use Rattle.blackscholes.specs.declared.OptionType.TheVariants as OptionType
use Rattle.ledger.specs.Model.{bsm}
use Rattle.ledger.specs.declared.Opening.{Opening}
use Rattle.ledger.specs.declared.Offer.{Offer}
use Rattle.ledger.specs.declared.Terms.{Terms}
use Rattle.ledger.specs.declared.Terms.TheVariants.{Volatility, Price}
use Rattle.ledger.specs.Book.{zero_book, fresh, open_refusal, opened}
use Rattle.ledger.specs.Build.{build_outcome, buffers_after}
use Rattle.ledger.specs.Fold.{after}
use Rattle.ledger.specs.Claim.{Ledger, hear, reply}
use Rattle.hexlines.specs.Session.{Told, book_after}
use Rattle.hexlines.specs.declared.Frame.TheVariants.{Open, Read}
use Rattle.hexlines.proofs.Claims.{streamed}
use Rattle.protocol.specs.Hear.{ledger, said, opens, offers, blank, read_of, reads, asked_by, answers, hears}
use Rattle.protocol.specs.Claims.{line_of_terms, line_of_offer, Program}
use Rattle.protocol.proofs.Numbers.{tabled}
use Rattle.protocol.proofs.Blank.{blank_strike}
use Rattle.protocol.proofs.Programs.{turned_within, any_turns, handed_on, had_room}

said_book : {X : Type 0} (l : Ledger) (value : X → Float) (o : Outcome X) → (said l value o).book ≡ l
unfolding said
said_book l value (done x) = refl
said_book l value (refused number x) = refl

read_only : (l : Ledger) (strike expiry : Float) → (hears l (Some (Read strike expiry))).book ≡ l
unfolding hears asked_by answers reads
read_only l strike expiry =
    said_book l (λ (x : Float). x) (read_of (buffers_after l.book l.columns blank) strike expiry (build_outcome l.book l.columns blank))

shut : (l : Ledger) (o : Opening) → (open_refusal o ≡ none → ⊥) → (hears l (Some (Open o.spot o.rate))).book ≡ ledger zero_book l.columns
unfolding hears asked_by answers opens opened answered
shut l o n = said_book _ _ (opened o) ∙ rw (ne_eqb (open_refusal o) none n)

accepted : (l : Ledger) (o : Opening) → open_refusal o ≡ none → (hears l (Some (Open o.spot o.rate))).book ≡ ledger (fresh o) l.columns
unfolding hears asked_by answers opens opened answered
accepted l o e = said_book _ _ (opened o) ∙ rw (eq-eqb (open_refusal o) none e)

line_of : (l : Ledger) (strike expiry : Float) (terms : Terms)
    → hears l (Some (line_of_terms strike expiry terms)) ≡ offers l (record { strike = strike; expiry = expiry; terms = terms })
unfolding hears asked_by answers
line_of l strike expiry (Volatility v) = refl
line_of l strike expiry (Price OptionType.Call price) = refl
line_of l strike expiry (Price OptionType.Put price) = refl

one : (l : Ledger) (o : Offer) → (hears l (Some (line_of_offer o))).book ≡ hear bsm l o
unfolding offers
one l o = ap (λ (h : Told Ledger). h.book) (line_of l o.strike o.expiry o.terms) ∙ said_book _ _ (reply bsm l o)

tray : (l : Ledger) (os : List Offer) → book_after hears l (map (λ (o : Offer). Some (line_of_offer o)) os) ≡ after (hear bsm) l os
unfolding book_after after
tray l [] = refl
tray l (o ∷ os) = ap (λ (z : Ledger). book_after hears z (map (λ (o : Offer). Some (line_of_offer o)) os)) (one l o) ∙ tray (hear bsm l o) os

pub program : Program
unfolding hears asked_by answers
program =
    record {
      streamed = streamed hears;
      turns = any_turns;
      handed_on = handed_on;
      roomy = had_room;
      within = turned_within;
      numbers = tabled;
      bad_21 = λ l. refl;
      read_only = read_only;
      bad_only = λ l. refl;
      blank_strike = blank_strike;
      shut = shut;
      opened = accepted;
      tray = tray;
    }
