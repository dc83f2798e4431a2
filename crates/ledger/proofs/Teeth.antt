-- The claim leaves nothing open: two books that meet it give the same answers to the list and hold the same record, columns and surface. So no other book meets
-- it: none whose cells echo the first, that answers another number, count or point c, that names a point it did not list, writes past kept, looks to the right
-- first, or opens with the spot it refused. Assumes nothing.
use mathlib.Core.Path.{◌≡◌, refl, sym, ap, ◌∙◌}
use Prim.Native.Nat.{ℕ}
use native.Mathlib.Omega.{arith}
use mathlib.Core.Bool.{Bool, true≢false}
use mathlib.Core.List.{List, [], ◌∷◌}
use lib.Dec.{eqb}
use borrow.Author.Tests.{eqb-true, eqb-false}
use lib.Ieee.{Float}
use Rattle.floats.proofs.Tests.{split}
use Rattle.limits.specs.Checks.{none}
use Rattle.limits.specs.Outcome.{Outcome, done, refused, is_done, number_of, values_of}
use Rattle.brent.specs.declared.Solution.{Solution}
use Rattle.brent.specs.Outcome.{ended, zeros}
use Rattle.brent.specs.Feed.{over}
use Rattle.blackscholes.specs.declared.OptionType.{OptionType}
use Rattle.chart.specs.Quotes.{Quote}
use Rattle.chart.specs.declared.Lengths.{Lengths}
use Rattle.ledger.specs.Model.{Model, prices_of}
use Rattle.ledger.specs.declared.Opening.{Opening}
use Rattle.ledger.specs.Fold.{Each}
use Rattle.ledger.specs.Tally.{Tally, fresh as noQuotes, step}
use Rattle.ledger.specs.Book.{Columns, open_refusal, is_short}
use Rattle.ledger.specs.Build.{Buffers}
use Rattle.ledger.specs.Claim.{Ledger, EvidenceOf, Right, Agrees, surface_refusal, BuildClaim, OpeningClaim}
use Rattle.ledger.specs.declared.Book.{Book}
use Rattle.ledger.specs.declared.Offer.{Offer}
use Rattle.ledger.specs.declared.Terms.{Terms}
use Rattle.ledger.specs.declared.Terms.TheVariants.{Volatility, Price}
use Rattle.ledger.proofs.Builds.{fits}
use Rattle.ledger.proofs.TeethSurface.{surface_fixed}

-- ---- the answers
one_fixed : (prices : OptionType → Float → Float) (terms : Terms) (r s : Outcome Solution) → EvidenceOf prices terms r → EvidenceOf prices terms s
    → is_done r ≡ is_done s → number_of r ≡ number_of s → (values_of r).evaluations ≡ (values_of s).evaluations → r ≡ s
one_fixed prices terms (done x) (refused m y) e f d n v = absurd (true≢false d)
one_fixed prices terms (refused m x) (done y) e f d n v = absurd (true≢false (sym d))
one_fixed prices (Volatility w) (done x) (done y) e f d n v = ap done (e ∙ sym f)
one_fixed prices (Volatility w) (refused l x) (refused m y) e f d n v = λ i. refused (n i) ((e ∙ sym f) i)
one_fixed prices (Price kind market) (done x) (done y) e f d n v =
    let same : ended (done x) over ≡ ended (done y) over = sym e.answer ∙ f.answer in
    let z : x ≡ y = cc in
    ap done z
one_fixed prices (Price kind market) (refused l x) (refused m y) e f d n v = λ i. refused (n i) ((e.zeros ∙ ap zeros v ∙ sym f.zeros) i)

module _ (model : Model) (opening : Opening) (short : Bool) where
  right_fixed : (t : Tally) (o : Offer) (r s : Outcome Solution) → Right model opening short t o r → Right model opening short t o s → r ≡ s
  right_fixed t o r s p q =
      one_fixed (prices_of model opening o) o.terms r s p.evidence q.evidence (p.accepted ∙ sym q.accepted) (p.number ∙ sym q.number)
      (omega (arith, p.counted, q.counted))

  answers_fixed : (t : Tally) (os : List Offer) (rs ss : List (Outcome Solution)) → Each (step model opening short) (Right model opening short) t os rs
      → Each (step model opening short) (Right model opening short) t os ss → rs ≡ ss
  answers_fixed t [] [] [] e f = refl
  answers_fixed t [] [] (s ∷ ss) e f = absurd f
  answers_fixed t [] (r ∷ rs) ss e f = absurd e
  answers_fixed t (o ∷ os) [] ss e f = absurd e
  answers_fixed t (o ∷ os) (r ∷ rs) [] e f = absurd f
  answers_fixed t (o ∷ os) (r ∷ rs) (s ∷ ss) e f =
      let tail = answers_fixed (step model opening short t o) os rs ss e.1 f.1 in
      λ i. right_fixed t o r s e.0 f.0 i ∷ tail i

-- ---- the list
module _ (model : Model) (opening : Opening) (was : Columns) (os : List Offer) (rs ss : List (Outcome Solution)) (l m : Ledger) (f g : ℕ → Book)
    (p : Agrees model opening was os rs l f) (q : Agrees model opening was os ss m g) where
  pub book_fixed : l.book ≡ m.book
  book_fixed =
      let same = p.inputs ∙ sym q.inputs in
      λ i. record {
        spot = (same i).spot;
        rate = (same i).rate;
        kept = (p.kept ∙ sym q.kept) i;
        refused = (p.refused ∙ sym q.refused) i;
        heard = (p.heard ∙ sym q.heard) i;
        evaluations = (p.evaluations ∙ sym q.evaluations) i;
      }

  pub columns_fixed : l.columns ≡ m.columns
  columns_fixed = p.columns ∙ sym q.columns

  pub replies_fixed : rs ≡ ss
  replies_fixed = answers_fixed model opening (is_short was) noQuotes os rs ss p.each q.each

-- ---- the build
pub build_fixed : (qs : List Quote) (s : Buffers) (short : Bool) (o w : Outcome Lengths) (x y : Buffers) → BuildClaim qs s short o x
    → BuildClaim qs s short w y → (o ≡ w) × (x ≡ y)
build_fixed qs s short o w x y p q =
    let r = surface_refusal qs s short in (
      p.number ∙ sym q.number,
      split (eqb r none)
          (λ t.
          let e = eqb-true r none t in
          surface_fixed qs s x y (fits qs s short e).narrow (p.surface e) (q.surface e))
          (λ t.
          let n = eqb-false r none t in
          p.refused n ∙ sym (q.refused n)),
    )

-- ---- the opening
pub opening_fixed : (opening : Opening) (a b : Outcome Book) → OpeningClaim opening a → OpeningClaim opening b → a ≡ b
opening_fixed opening a b p q =
    split (eqb (open_refusal opening) none)
    (λ t. let e = eqb-true (open_refusal opening) none t in p.opens e ∙ sym (q.opens e))
    (λ t. let n = eqb-false (open_refusal opening) none t in p.stays_shut n ∙ sym (q.stays_shut n))
