-- The book agrees with the plain tally, and one offer keeps it so: both go by the same tests, of figures that are the same. Assumes nothing.
use mathlib.Core.Path.{◌≡◌, refl, ap, ◌∙◌}
use Prim.Native.Nat.{ℕ, ◌+◌, ◌*◌, ◌≤◌}
use native.Mathlib.Omega.{arith}
use mathlib.Core.Bool.{Bool, true, false, not, ◌||◌}
use mathlib.Core.List.{[], ◌∷◌}
use lib.ListN.{length}
use borrow.Author.Tests.{le-ltb, eq-eqb, not-false}
use Rattle.floats.proofs.Tests.{split}
use Rattle.limits.specs.Ranges.{is_spot, is_rate}
use Rattle.limits.specs.Checks.{none}
use Rattle.limits.proofs.Checks.{passes}
use Rattle.brent.specs.Feed.{most_evaluations}
use Rattle.chart.specs.Quotes.{all_in_range}
use Rattle.chart.proofs.Kept.{Long, long}
use Rattle.ledger.specs.declared.Opening.{Opening}
use Rattle.ledger.specs.Tally.{Tally, fresh as noQuotes}
use Rattle.ledger.specs.Book.{Columns, opening_of, fresh, open_refusal, is_short, is_broken}
use Rattle.ledger.specs.Claim.{Ledger, holding}
use Rattle.ledger.proofs.Quoted.{column_length}

-- What holds of the book, the columns and the tally after every list. `was` are the columns at first.
pub record Agree (opening : Opening) (was : Columns) (l : Ledger) (t : Tally) : Type 0 where
  pub inputs : opening_of l.book ≡ opening
  pub kept : l.book.kept ≡ length t.quotes
  pub heard : l.book.heard ≡ t.heard
  pub refused : l.book.refused ≡ t.refused
  pub evaluations : l.book.evaluations ≡ t.evaluations
  pub room : length t.quotes ≤ 1024
  pub total : length t.quotes + t.refused ≡ t.heard
  pub few : t.heard ≤ 60000
  pub cost : t.evaluations ≤ most_evaluations * t.heard
  pub columns : l.columns ≡ holding t.quotes was
  -- where 1 holds, no quote is ever listed
  pub shut : is_short was ≡ true → length t.quotes ≡ 0
  pub ranged : all_in_range t.quotes ≡ true

pub start : (opening : Opening) (was : Columns) → Agree opening was (record { book = fresh opening; columns = was }) noQuotes
unfolding all_in_range
start opening was =
    record {
      inputs = refl;
      kept = refl;
      heard = refl;
      refused = refl;
      evaluations = refl;
      room = omega arith;
      total = refl;
      few = omega arith;
      cost = omega arith;
      columns = refl;
      shut = λ e. refl;
      ranged = refl;
    }

-- ---- checks 1 and 2
-- the list is no longer than a column: it is empty where 1 holds
below : (was : Columns) (n m : ℕ) → (is_short was ≡ true → n ≡ 0) → n ≤ 1024 → (Long was → 1024 ≤ m) → n ≤ m
below was n m shut room h = split (is_short was) (λ t. omega (arith, shut t)) (λ f. omega (arith, h (long was f)))

pub same_short : (opening : Opening) (was : Columns) (l : Ledger) (t : Tally) → Agree opening was l t → is_short l.columns ≡ is_short was
unfolding is_short
same_short opening was l t a =
    let under : (m : ℕ) → (Long was → 1024 ≤ m) → length t.quotes ≤ m = λ m. below was (length t.quotes) m a.shut a.room in
    rw (
      a.columns,
      column_length _ t.quotes was.strikes (under _ (λ w. w.strikes)),
      column_length _ t.quotes was.expiries (under _ (λ w. w.expiries)),
      column_length _ t.quotes was.volatilities (under _ (λ w. w.volatilities)),
    )

-- an accepted opening
pub accepted : (opening : Opening) → open_refusal opening ≡ none → (is_spot opening.spot ≡ true) × (is_rate opening.rate ≡ true)
unfolding open_refusal
accepted opening h =
    let p = (passes ((not (is_spot opening.spot), 6) ∷ (not (is_rate opening.rate), 9) ∷ []) none refl h).0 in
    (not-false (is_spot opening.spot) p.0, not-false (is_rate opening.rate) p.1.0)

-- 2 never holds
in_bounds : {a b c d e f : Bool} → a ≡ false → b ≡ true → c ≡ false → d ≡ false → e ≡ true → f ≡ true → (a || not b || c || d || not e || not f) ≡ false
in_bounds p q r s t u = rw (p, q, r, s, t, u)

pub unbroken : (opening : Opening) (was : Columns) (l : Ledger) (t : Tally) → open_refusal opening ≡ none → Agree opening was l t → is_broken l.book ≡ false
unfolding is_broken
unbroken opening was l t ok a =
    let b = l.book in
    let w = accepted opening ok in
    in_bounds (le-ltb 1024 b.kept (omega (arith, a.kept, a.room)))
    (eq-eqb (b.kept + b.refused) b.heard (omega (arith, a.kept, a.refused, a.heard, a.total)))
    (le-ltb 60000 b.heard (omega (arith, a.heard, a.few)))
    (le-ltb (most_evaluations * b.heard) b.evaluations (omega (arith, a.heard, a.evaluations, a.cost)))
    (ap (λ (o : Opening). is_spot o.spot) a.inputs ∙ w.0)
    (ap (λ (o : Opening). is_rate o.rate) a.inputs ∙ w.1)
