-- The examples of the solver, computed. Assumes nothing.
use mathlib.Core.Path.{◌≡◌, refl, ◌∙◌}
use Prim.Native.Nat.{ℕ}
use mathlib.Core.Bool.{false, true}
use lib.IntN.{ℤ, pos, negsuc}
use lib.Ieee.{Float, fin, round, neg, is_nan, add, sub, mul, div, lt, le, eq}
use Rattle.floats.specs.Operators.{decimal}
use Rattle.floats.specs.Values.{magnitude, minimum, negative, copysign}
use Rattle.limits.specs.Ranges.{is_price, within}
use Rattle.limits.specs.Checks.{first}
use Rattle.brent.specs.Brent.{reset, swap, tolerance, middle, converged, turned, by_line, by_parabola, interpolation, tries, accepts, steps, step, advance}
use Rattle.brent.specs.Outcome.{outcome_of_implied}
use Rattle.brent.specs.Feed.{fresh, refuse, ask, find, start, placed, in_range, is_unusable, is_unbracketed, feed_number, feed}
use Rattle.brent.specs.Run.{feed_all, run}
use Rattle.brent.specs.Examples.{Examples, plus, minus, two, three, Next, Interpolations}

pub examples : Examples
unfolding run feed_all start fresh feed feed_number first placed in_range is_unusable is_unbracketed refuse ask find
    reset swap tolerance middle converged is_price within magnitude round neg add sub mul lt le eq outcome_of_implied
examples = record { refused_12 = refl; found_10 = refl; read_12 = refl }

-- ---- the steps of a round, each computed to a float as a fraction, which the decimals then are: two roundings are not compared directly
abbrev above : ℕ → ℤ → Float
above m e = fin false m e

abbrev below : ℕ → ℤ → Float
below m e = fin true m e

read : {u v w x d e x' d' e' : Float} → (u ≡ x) × (v ≡ d) × (w ≡ e) → x ≡ x' → d ≡ d' → e ≡ e' → (u ≡ x') × (v ≡ d') × (w ≡ e')
read n f g h = (n.0 ∙ f, n.1 ∙ g, n.2 ∙ h)

line_down : Next (two (plus 1) (minus 2) (plus 4) (plus 1) (plus 3)) (above 3 (pos 0)) (below 1 (pos 0)) (above 3 (pos 0))
unfolding advance steps step tries accepts interpolation by_line by_parabola turned tolerance middle minimum copysign negative magnitude
    round neg is_nan add sub mul div lt le
line_down = (refl, refl, refl)

line_up : Next (two (plus 4) (minus 2) (plus 1) (plus 1) (minus 3)) (above 1 (pos 1)) (above 1 (pos 0)) (below 3 (pos 0))
unfolding advance steps step tries accepts interpolation by_line by_parabola turned tolerance middle minimum copysign negative magnitude
    round neg is_nan add sub mul div lt le
line_up = (refl, refl, refl)

parabola_up : Next (three (plus 1) (minus 4) (plus 4) (minus 2) (plus 7) (plus 4) (plus 8)) (above 3 (pos 1)) (above 1 (pos 1)) (above 3 (pos 0))
unfolding advance steps step tries accepts interpolation by_line by_parabola turned tolerance middle minimum copysign negative magnitude
    round neg is_nan add sub mul div lt le
parabola_up = (refl, refl, refl)

parabola_down : Next (three (plus 7) (minus 4) (plus 4) (minus 2) (plus 1) (plus 4) (minus 8)) (above 1 (pos 1)) (below 1 (pos 1)) (below 3 (pos 0))
unfolding advance steps step tries accepts interpolation by_line by_parabola turned tolerance middle minimum copysign negative magnitude
    round neg is_nan add sub mul div lt le
parabola_down = (refl, refl, refl)

too_far : Next (three (plus 2) (minus 8) (plus 5) (plus 4) (plus 1) (minus 4) (plus 9)) (above 3 (pos 0)) (below 1 (pos 1)) (below 1 (pos 1))
unfolding advance steps step tries accepts interpolation by_line by_parabola turned tolerance middle minimum copysign negative magnitude
    round neg is_nan add sub mul div lt le
too_far = (refl, refl, refl)

too_long : Next (three (plus 1) (minus 4) (plus 4) (minus 2) (plus 7) (plus 4) (plus 4)) (above 11 (negsuc 0)) (above 3 (negsuc 0)) (above 3 (negsuc 0))
unfolding advance steps step tries accepts interpolation by_line by_parabola turned tolerance middle minimum copysign negative magnitude
    round neg is_nan add sub mul div lt le
too_long = (refl, refl, refl)

no_better : Next (three (plus 2) (minus 4) (plus 4) (plus 4) (plus 1) (minus 8) (plus 9)) (above 5 (negsuc 0)) (below 3 (negsuc 0)) (below 3 (negsuc 0))
unfolding advance steps step tries accepts interpolation by_line by_parabola turned tolerance middle minimum copysign negative magnitude
    round neg is_nan add sub mul div lt le
no_better = (refl, refl, refl)

too_short : Next (two (plus 1) (minus 1099511627776) (plus 4) (plus 1) (decimal 1 4194304)) (above 5 (negsuc 0)) (below 3 (negsuc 0)) (below 3 (negsuc 0))
unfolding advance steps step tries accepts interpolation by_line by_parabola turned tolerance middle minimum copysign negative magnitude
    round neg is_nan add sub mul div lt le
too_short = (refl, refl, refl)

smallest : (advance (two (plus 1) (minus 1099511627776) (plus 4) (plus 1) (plus 3))).b ≡ above 9007198128841081 (negsuc 50)
unfolding advance steps step tries accepts interpolation by_line by_parabola turned tolerance middle minimum copysign negative magnitude
    round neg is_nan add sub mul div lt le
smallest = refl

pub interpolations : Interpolations
unfolding round neg
interpolations =
    record {
      line_down = read line_down refl refl refl;
      line_up = read line_up refl refl refl;
      parabola_up = read parabola_up refl refl refl;
      parabola_down = read parabola_down refl refl refl;
      too_far = read too_far refl refl refl;
      too_long = read too_long refl refl refl;
      no_better = read no_better refl refl refl;
      too_short = read too_short refl refl refl;
      smallest = smallest ∙ refl;
    }
