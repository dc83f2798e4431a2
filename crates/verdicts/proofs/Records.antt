-- What an offer's number tells of the record. Assumes nothing.
use mathlib.Core.Path.{◌≡◌, refl}
use mathlib.Core.List.{[], ◌∷◌}
use mathlib.Core.Bool.{Bool, false}
use Prim.Native.Nat.{◌<◌}
use lib.Dec.{leb}
use borrow.Author.Tests.{leb-false}
use Rattle.limits.specs.Checks.{first, none}
use Rattle.limits.proofs.Checks.{Rows, Passed, passes, past}
use Rattle.ledger.specs.Book.{is_broken, own_refusal, offer_refusal}
use Rattle.ledger.specs.declared.Book.{Book}
use Rattle.ledger.specs.declared.Offer.{Offer}

-- ---- what an offer's number tells
-- None of 1 to 3 holds; and none of all.
pub record Entered (short : Bool) (b : Book) : Type 0 where
  pub long : short ≡ false
  pub sound : is_broken b ≡ false
  pub room_to_hear : b.heard < 60000

pub record AllPass (short : Bool) (b : Book) (o : Offer) : Type 0 where
  pub entry : Entered short b
  pub place : b.kept < 1024
  pub own : own_refusal o ≡ none

module _ (short : Bool) (b : Book) (o : Offer) where
  -- 1 to 3
  abbrev first_rows : Rows
  first_rows = (short, 1) ∷ (is_broken b, 2) ∷ (leb 60000 b.heard, 3) ∷ []

  entered : Passed first_rows → Entered short b
  entered p = record { long = p.0; sound = p.1.0; room_to_hear = leb-false 60000 b.heard p.1.1.0 }

  pub counted : 3 < offer_refusal short b o → Entered short b
  unfolding offer_refusal
  counted h = entered (past 3 first_rows (first (leb 1024 b.kept) 4 (own_refusal o)) refl h)

  pub all_pass : offer_refusal short b o ≡ none → AllPass short b o
  unfolding offer_refusal
  all_pass h =
      let p = passes first_rows (first (leb 1024 b.kept) 4 (own_refusal o)) refl h in
      let q = passes ((leb 1024 b.kept, 4) ∷ []) (own_refusal o) refl p.1 in
      record { entry = entered p.0; place = leb-false 1024 b.kept q.0.0; own = q.1 }
