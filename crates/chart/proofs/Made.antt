-- From the axes that a build made to what it promises. Assumes nothing.
use Prim.Native.Nat.{ℕ}
use mathlib.Core.Path.{◌≡◌, sym, ap}
use mathlib.Core.List.{List}
use lib.ListN.{take}
use lib.Ieee.{Float}
use Rattle.limits.specs.Checks.{none}
use Rattle.chart.specs.Quotes.{Columns, quotes}
use Rattle.chart.specs.Axis.{axis}
use Rattle.chart.specs.Cells.{axes}
use Rattle.chart.specs.Steps.{Pos, Accepted}
use Rattle.chart.specs.Build.{Buffers, refusal}
use Rattle.chart.proofs.Kept.{strikes_of, expiries_of, length_quotes}
use Rattle.chart.proofs.BuildChecks.{Sound, passed}
use Rattle.chart.proofs.Housing.{strikes_pos, expiries_pos}

module _ {c : Columns} {kept : ℕ} (S : Sound c kept) where
  -- what the axes are made of is finite and above 0
  pub strikes_positive : Pos (take kept c.strikes)
  strikes_positive = rw (← strikes_of c kept S.strikes) (strikes_pos (quotes c kept) S.ranged)

  pub expiries_positive : Pos (take kept c.expiries)
  expiries_positive = rw (← expiries_of c kept S.expiries) (expiries_pos (quotes c kept) S.ranged)

  -- the axes of a column's front are the quotes' axes
  pub strikes_made : axis (take kept c.strikes) ≡ (axes (quotes c kept)).strikes
  unfolding axes
  strikes_made = ap (λ (l : List Float). axis l) (sym (strikes_of c kept S.strikes))

  pub expiries_made : axis (take kept c.expiries) ≡ (axes (quotes c kept)).expiries
  unfolding axes
  expiries_made = ap (λ (l : List Float). axis l) (sym (expiries_of c kept S.expiries))

-- a build that no check turns down, with both axes made
pub accepted : (c : Columns) (kept : ℕ) (s : Buffers) (K E : List Float) → refusal c kept s ≡ none → K ≡ (axes (quotes c kept)).strikes
    → E ≡ (axes (quotes c kept)).expiries → Accepted (quotes c kept) s K E
accepted c kept s K E h k e =
    let P = passed c kept s h in
    record {
      few = rw (length_quotes c kept) P.sound.few;
      ranged = P.sound.ranged;
      long_strikes = P.long_strikes;
      long_expiries = P.long_expiries;
      long_grid = P.long_grid;
      long_counts = P.long_counts;
      narrow = rw k P.narrow;
      low = rw e P.low;
      strikes = k;
      expiries = e;
    }
