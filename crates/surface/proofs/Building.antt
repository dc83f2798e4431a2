-- A build, with its axes in vectors that are as long as they: crate `chart`'s steps of it. Assumes nothing.
use Rattle.std.specs.Prelude.{All}
use Rattle.std.proofs.lemmas.List.{take_all, get_or_default}
use Prim.Native.Nat.{ℕ}
use mathlib.Core.Path.{◌≡◌, ◌∙◌}
use mathlib.Core.Bool.{Bool}
use mathlib.Core.List.{List}
use native.Mathlib.Omega.{arith}
use lib.ListN.{length, take}
use lib.Dec.{T}
use lib.Ieee.{Float, nan}
use lib.Ieee.Positive.{positive}
use Rattle.limits.specs.Checks.{none}
use Rattle.limits.specs.Outcome.{done, refused}
use Rattle.chart.specs.Quotes.{Columns, first_of, quotes}
use Rattle.chart.specs.Axis.{axis}
use Rattle.chart.specs.Build.{Buffers, no_lengths, surface_of, is_small, refusal, BuildsTo}
use Rattle.chart.specs.Steps.{Pos, number_by, axes_refusal, Accepted}
use Rattle.chart.proofs.Ordered.{pos_in}
use Rattle.chart.proofs.Execution as builds
use Rattle.chart.proofs.Execution.{Cut}

-- each value of a column
pub all_above : (xs : List Float) → Pos xs → All (λ x. T (positive x)) xs
all_above xs p k d h = rw (get_or_default xs k d nan h) (pos_in xs k p h)

-- the first n quotes have passed, and stand in columns of their own
pub cut : {c : Columns} {n : ℕ} {s : Buffers} {own : Columns} {small : Bool} → small ≡ is_small s → none ≡ number_by c n small none
    → own ≡ first_of c n → Cut c n s own
cut {small = small} is passed first = record { small = small; is = is; passed = passed; first = first }

module _ {c : Columns} {n : ℕ} {s : Buffers} {own : Columns} (C : Cut c n s own) {K E : List Float} (k : K ≡ axis own.strikes)
    (e : E ≡ axis own.expiries) {columns rows : ℕ} (width : columns ≡ length K) (height : rows ≡ length E) where
  all_columns : take columns K ≡ K
  all_columns = take_all columns K (omega arith)

  all_rows : take rows E ≡ E
  all_rows = take_all rows E (omega arith)

  pub axes_refused : (why : ℕ) → why ≡ axes_refusal columns rows → (why ≡ none → ⊥)
      → BuildsTo (refusal c n s) (quotes c n) s (refused why no_lengths) s
  axes_refused why a z = builds.axes_refused C columns rows K E (omega arith) (omega arith) (all_columns ∙ k) (all_rows ∙ e) why a z

  module _ (a : none ≡ axes_refusal columns rows) where
    pub accepted : Accepted (quotes own (length own.strikes)) s K E
    accepted =
        rw (all_columns, all_rows) at (builds.written C columns rows K E (omega arith) (omega arith) (all_columns ∙ k) (all_rows ∙ e) a)

    pub built : (wide tall : ℕ) → wide ≡ length K → tall ≡ length E → (s' : Buffers) → s' ≡ surface_of (quotes own (length own.strikes)) s
        → BuildsTo (refusal c n s) (quotes c n) s (done (record { strikes = wide; expiries = tall })) s'
    built wide tall w t s' e' =
        rw (w, t, ← width, ← height) (builds.built C columns rows K E (omega arith) (omega arith) (all_columns ∙ k) (all_rows ∙ e) a s' e')
