-- Quotes on the axes that were made of them: each has its cell. Assumes nothing.
use Prim.Native.Nat.{ℕ, ◌<◌}
use mathlib.Core.Path.{subst, sym}
use lib.ListN.{length, get_or}
use lib.Ieee.{nan}
use Rattle.chart.specs.Cells.{Axes}
use Rattle.chart.specs.Steps.{axes_of, OnAxis, OnAxes}
use Rattle.chart.proofs.Filing.{home_of}
use Rattle.chart.proofs.Housing.{all_placed}
use Rattle.admission.specs.Lent.{columns_in}
use Rattle.surface.specs.Quoted.{quotes_in}
use Rattle.surface.specs.Lent.{axes_in}
use Rattle.surface.specs.declared.cells.Placed.{Placed}

on_axes : (p : Placed) → OnAxes (axes_in p) (quotes_in p.quotes)
on_axes p =
    subst (λ (x : Axes). OnAxes x (quotes_in p.quotes)) (sym (λ i. axes_of (p.strikes_made i) (p.expiries_made i)))
    (all_placed (quotes_in p.quotes) p.ranged)

pub housed : (p : Placed) (i : ℕ) → i < length p.quotes.strikes.now
    → OnAxis p.expiries.now (get_or p.quotes.expiries.now i nan) × OnAxis p.strikes.now (get_or p.quotes.strikes.now i nan)
housed p i h = home_of (axes_in p) (columns_in p.quotes) (length p.quotes.strikes.now) i h (on_axes p)
