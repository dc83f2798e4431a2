-- Examples of the solver, computed: document 01's two, and the steps of a round.
use Rattle.std.specs.Prelude.{ℕ, ◌≡◌, [], ◌∷◌, Float, Err}
use Rattle.std.specs.Float.Ieee.{neg}
use Rattle.floats.specs.Operators.{decimal, ◌⊖◌}
use Rattle.limits.specs.Outcome.{done, refused}
use Rattle.limits.specs.declared.Refusal.TheVariants as why
use Rattle.brent.specs.declared.Points.{Points}
use Rattle.brent.specs.Brent.{advance}
use Rattle.brent.specs.Outcome.{ended, zeros, outcome_of_implied}
use Rattle.brent.specs.Feed.{over}
use Rattle.brent.specs.Run.{run}

-- Of document 01's twelve: "Fed 0.5 then 0.25 against market 1: 12, 2 evaluations; 0.5 then 1: volatility 10, 2 evaluations."
pub record Examples : Type 0 where
  pub refused_12 : (run (decimal 1 1) (decimal 1 2 ∷ decimal 1 4 ∷ [])).reply ≡ ended (refused 12 (zeros 2)) over
  pub found_10 : (run (decimal 1 1) (decimal 1 2 ∷ decimal 1 1 ∷ [])).reply
      ≡ ended (done (record { volatility = decimal 10 1; error = decimal 0 1; c = decimal 1 1000000; c_error = neg (decimal 1 2); evaluations = 2 })) over
  -- Such a refusal is read with its evaluations.
  pub read_12 : outcome_of_implied (Err (record { refusal = why.NotBracketed; evaluations = 2 })) ≡ refused 12 (zeros 2)

-- ---- the steps of a round, at points and errors for which every operation is exact, so that each is told by hand (the quotient of `smallest` alone is
-- rounded, and its step is the tolerance)
abbrev pub plus : ℕ → Float
plus n = decimal n 1

abbrev pub minus : ℕ → Float
minus n = neg (decimal n 1)

-- Two points with their errors, c the last one again, and the step before last.
abbrev pub two : Float → Float → Float → Float → Float → Points
two a fa b fb e = record { a = a; b = b; c = a; fa = fa; fb = fb; fc = fa; d = b ⊖ a; e = e }

-- Three.
abbrev pub three : Float → Float → Float → Float → Float → Float → Float → Points
three a fa b fb c fc e = record { a = a; b = b; c = c; fa = fa; fb = fb; fc = fc; d = b ⊖ a; e = e }

-- The solver asks for x next, and its last two steps are then d and e.
abbrev pub Next : Points → Float → Float → Float → Type 0
Next p x d e = ((advance p).b ≡ x) × ((advance p).d ≡ d) × ((advance p).e ≡ e)

pub record Interpolations : Type 0 where
  -- The line through (1, -2) and (4, 1) crosses 0 at 3, the one through (4, -2) and (1, 1) at 2.
  pub line_down : Next (two (plus 1) (minus 2) (plus 4) (plus 1) (plus 3)) (plus 3) (minus 1) (plus 3)
  pub line_up : Next (two (plus 4) (minus 2) (plus 1) (plus 1) (minus 3)) (plus 2) (plus 1) (minus 3)
  -- 6 + 3/4 f - f f / 8 is 1, 4 and 7 where f is -4, -2 and 4, and 6 where f is 0; mirrored, it is 2. The step is two thirds of the way to c.
  pub parabola_up : Next (three (plus 1) (minus 4) (plus 4) (minus 2) (plus 7) (plus 4) (plus 8)) (plus 6) (plus 2) (plus 3)
  pub parabola_down : Next (three (plus 7) (minus 4) (plus 4) (minus 2) (plus 1) (plus 4) (minus 8)) (plus 2) (minus 2) (minus 3)
  -- Half way to c instead: where the interpolation is not under three quarters of the way (from 5, it would be 2),
  pub too_far : Next (three (plus 2) (minus 8) (plus 5) (plus 4) (plus 1) (minus 4) (plus 9)) (plus 3) (minus 2) (minus 2)
  -- not under half of the step before last (it would be 6),
  pub too_long : Next (three (plus 1) (minus 4) (plus 4) (minus 2) (plus 7) (plus 4) (plus 4)) (decimal 11 2) (decimal 3 2) (decimal 3 2)
  -- where the last error is not the larger (it would be 3),
  pub no_better : Next (three (plus 2) (minus 4) (plus 4) (plus 4) (plus 1) (minus 8) (plus 9)) (decimal 5 2) (neg (decimal 3 2)) (neg (decimal 3 2))
  -- or the step before last is under the tolerance (2^-22).
  pub too_short : Next (two (plus 1) (minus 1099511627776) (plus 4) (plus 1) (decimal 1 4194304)) (decimal 5 2) (neg (decimal 3 2)) (neg (decimal 3 2))
  -- No step is shorter than the tolerance, at 4 0.0000005 and 2^-49.
  pub smallest : (advance (two (plus 1) (minus 1099511627776) (plus 4) (plus 1) (plus 3))).b ≡ decimal 3999999499999998 1000000000000000
