-- A build, step by step: the quotes are checked, and cut out of their columns; axes are made of them, and checked; a surface is written. Assumes nothing.
use Prim.Native.Nat.{ℕ, ◌≤◌}
use mathlib.Core.Path.{◌≡◌, sym, ◌∙◌, ap, subst}
use mathlib.Core.Bool.{Bool}
use mathlib.Core.List.{List}
use lib.ListN.{length, take}
use lib.Seq.{length-take-le}
use lib.Ieee.{Float}
use Rattle.limits.specs.Checks.{none}
use Rattle.limits.specs.Outcome.{done, refused}
use Rattle.chart.specs.Quotes.{Quote, Columns, first_of, quotes}
use Rattle.chart.specs.Axis.{axis}
use Rattle.chart.specs.Cells.{axes}
use Rattle.chart.specs.Build.{Buffers, no_lengths, surface_of, is_small, refusal, BuildsTo}
use Rattle.chart.specs.Steps.{Pos, number_by, axes_refusal, Accepted}
use Rattle.chart.proofs.Kept.{quotes_first}
use Rattle.chart.proofs.BuildChecks.{Sound, none_yet, told_early, told, refused_by, done_by}
use Rattle.chart.proofs.Made.{strikes_positive, expiries_positive, strikes_made, expiries_made, accepted}

module _ (c : Columns) (n : ℕ) (s : Buffers) (small : Bool) (is : small ≡ is_small s) where
  pub quotes_refused : (why : ℕ) → why ≡ number_by c n small none → (why ≡ none → ⊥)
      → BuildsTo (refusal c n s) (quotes c n) s (refused why no_lengths) s
  quotes_refused why h z = refused_by _ _ _ why (told c n s small is ∙ sym (told_early c n small why _ h z)) z

  pub sound : none ≡ number_by c n small none → Sound c n
  sound h = (none_yet c n small (sym h)).0

-- ---- the first n quotes have passed, and stand in columns of their own
pub record Cut (c : Columns) (n : ℕ) (s : Buffers) (cut : Columns) : Type 0 where
  pub small : Bool
  pub is : small ≡ is_small s
  pub passed : none ≡ number_by c n small none
  pub first : cut ≡ first_of c n

module _ {c : Columns} {n : ℕ} {s : Buffers} {cut : Columns} (C : Cut c n s cut) where
  ranged : Sound c n
  ranged = sound c n s C.small C.is C.passed

  pub few : n ≤ 1024
  few = ranged.few

  pub strikes_cut : length cut.strikes ≡ n
  strikes_cut = rw C.first (length-take-le n c.strikes ranged.strikes)

  pub expiries_cut : length cut.expiries ≡ n
  expiries_cut = rw C.first (length-take-le n c.expiries ranged.expiries)

  pub volatilities_cut : length cut.volatilities ≡ n
  volatilities_cut = rw C.first (length-take-le n c.volatilities ranged.volatilities)

  pub strikes_above_zero : Pos cut.strikes
  strikes_above_zero = rw C.first (strikes_positive ranged)

  pub expiries_above_zero : Pos cut.expiries
  expiries_above_zero = rw C.first (expiries_positive ranged)

  abbrev theirs : List Quote
  theirs = quotes cut (length cut.strikes)

  same_quotes : theirs ≡ quotes c n
  same_quotes = rw strikes_cut (rw C.first (quotes_first c n))

  -- ---- with axes made of them, in the fronts of two arrays
  module _ (columns rows : ℕ) (K E : List Float) (hc : columns ≤ length K) (hr : rows ≤ length E) (hk : take columns K ≡ axis cut.strikes)
      (he : take rows E ≡ axis cut.expiries) where
    strikes_axis : take columns K ≡ (axes (quotes c n)).strikes
    strikes_axis = hk ∙ ap (λ (q : Columns). axis q.strikes) C.first ∙ strikes_made ranged

    expiries_axis : take rows E ≡ (axes (quotes c n)).expiries
    expiries_axis = he ∙ ap (λ (q : Columns). axis q.expiries) C.first ∙ expiries_made ranged

    columns_are : columns ≡ length (axes (quotes c n)).strikes
    columns_are = sym (length-take-le columns K hc) ∙ ap (λ (l : List Float). length l) strikes_axis

    rows_are : rows ≡ length (axes (quotes c n)).expiries
    rows_are = sym (length-take-le rows E hr) ∙ ap (λ (l : List Float). length l) expiries_axis

    number : (why : ℕ) → why ≡ axes_refusal columns rows → refusal c n s ≡ why
    number why a = told c n s C.small C.is ∙ sym ((none_yet c n C.small (sym C.passed)).1 _) ∙ rw (← columns_are, ← rows_are) (sym a)

    pub axes_refused : (why : ℕ) → why ≡ axes_refusal columns rows → (why ≡ none → ⊥)
        → BuildsTo (refusal c n s) (quotes c n) s (refused why no_lengths) s
    axes_refused why a z = refused_by _ _ _ why (number why a) z

    module _ (a : none ≡ axes_refusal columns rows) where
      pub written : Accepted theirs s (take columns K) (take rows E)
      written =
          subst (λ (qs : List Quote). Accepted qs s (take columns K) (take rows E)) (sym same_quotes)
          (accepted c n s (take columns K) (take rows E) (number none a) strikes_axis expiries_axis)

      pub built : (s' : Buffers) → s' ≡ surface_of theirs s
          → BuildsTo (refusal c n s) (quotes c n) s (done (record { strikes = columns; expiries = rows })) s'
      built s' w =
          done_by _ _ _ s' columns rows (number none a) columns_are rows_are (w ∙ ap (λ (qs : List Quote). surface_of qs s) same_quotes)
