-- A list heard in a loop: what is left of it, heard from where the book stands, ends where the whole list does. Assumes nothing.
use mathlib.Core.Path.{◌≡◌, refl}
use mathlib.Core.Bool.{Bool}
use mathlib.Core.List.{List, [], ◌∷◌}
use Prim.Native.Nat.{ℕ, zero, suc, ◌+◌, ◌-◌, ◌≤◌, ◌<◌}
use native.Mathlib.Omega.{arith}
use native.Mathlib.Numerals.{add-one}
use native.Mathlib.Nat.{le_of_suc-le-suc, not-suc-le-zero}
use lib.ListN.{length, get_or, set}
use lib.Ieee.{Float}
use Rattle.blackscholes.specs.Implied.{outcome_of_implied}
use Rattle.grid.specs.Layout.{values}
use Rattle.ledger.specs.Model.{bsm}
use Rattle.ledger.specs.Book.{Columns}
use Rattle.ledger.specs.Fold.{after, along}
use Rattle.ledger.specs.Claim.{Ledger, hear, reply}
use Rattle.ledger.specs.Calls.{Offers}
use Rattle.trays.specs.Tray.{offer_of, offer_at, written, numbers_of, evidence_of, Answers, answers, handed_out}
use Rattle.ledger.specs.declared.Book.{Book}
use Rattle.ledger.specs.declared.Heard.{Heard}
use Rattle.ledger.specs.declared.Offer.{Offer}

-- ---- an entry in a list does not depend on what would stand past the end
pub get_d_any : {X : Type 0} (xs : List X) (i : ℕ) (d e : X) → i < length xs → get_or xs i d ≡ get_or xs i e
get_d_any [] i d e h = absurd (not-suc-le-zero h)
get_d_any (x ∷ xs) zero d e h = refl
get_d_any (x ∷ xs) (suc i) d e h = get_d_any xs i d e (le_of_suc-le-suc h)

abbrev ledger_of : Book → Columns → Ledger
ledger_of b c = record { book = b; columns = c }

module _ (kinds : List (List Bool)) (figures : List (List Float)) where
  pub read_offer : (i : ℕ) (x : List Bool) (y : List Float) → i < length kinds → i < length figures
      → offer_of (get_or kinds i x) (get_or figures i y) ≡ offer_at kinds figures i
  read_offer i x y h k = rw (get_d_any kinds i x [] h, get_d_any figures i y [] k)

  -- ---- what is left from offer i on
  abbrev pub rest : ℕ → ℕ → List Offer
  rest n i = values (offer_at kinds figures) (n - i) i

  rest_cons : (n i : ℕ) → i < n → rest n i ≡ offer_at kinds figures i ∷ rest n (suc i)
  unfolding values
  rest_cons n i h = let e : n - i ≡ suc (n - suc i) = omega arith in rw e

  rest_end : (n i : ℕ) → n ≤ i → rest n i ≡ []
  unfolding values
  rest_end n i h = let e : n - i ≡ 0 = omega arith in rw e

  -- From a ledger, a place and the answers written so far, to what the whole list leaves.
  pub record Going (n i : ℕ) (l : Ledger) (a : Answers) (L : Ledger) (A : Answers) : Type 0 where
    pub ledger : after (hear bsm) l (rest n i) ≡ L
    pub answers : handed_out i (along (hear bsm) (reply bsm) l (rest n i)) a ≡ A

  -- one offer more
  pub turn : (n i : ℕ) (l : Ledger) (o : Offer) (a : Answers) (L : Ledger) (A : Answers) (r : Heard) (c' : Columns) (x : List ℕ) (y : List Float)
      → i < n → o ≡ offer_at kinds figures i → Offers bsm l.book l.columns o r c'
      → x ≡ numbers_of (outcome_of_implied r.answer) → y ≡ evidence_of (outcome_of_implied r.answer) → Going n i l a L A
      → Going n (i + 1) (ledger_of r.book c') (answers (set a.numbers i x) (set a.evidence i y)) L A
  unfolding after along hear written
  turn n i l o a L A r c' x y h q w f g k =
      let p : Offers bsm l.book l.columns (offer_at kinds figures i) r c' = rw q at w in
      let z : ledger_of r.book c' ≡ hear bsm l (offer_at kinds figures i) = λ j. ledger_of (p.replies.book j) (p.columns j) in
      let e = rest_cons n i h in
      rw (add-one i, z, f, g, p.replies.outcome) (record { ledger = rw e at k.ledger; answers = rw e at k.answers })

  -- nothing is left
  pub finished : (n i : ℕ) (l : Ledger) (a : Answers) (L : Ledger) (A : Answers) → n ≤ i → Going n i l a L A → (l ≡ L) × (a ≡ A)
  unfolding after along written
  finished n i l a L A h g = let x = rest_end n i h in (rw x at g.ledger, rw x at g.answers)
