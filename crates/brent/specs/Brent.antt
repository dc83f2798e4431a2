-- Document 01: "The solver is Brent's (1973) as the Rust writes it." One turn of the loop of `implied_volatility` (src/options/greeks.rs), in its names
-- and its order of operations. The line of the Rust stands above each definition.
use Rattle.std.specs.Prelude.{ℕ, Bool, ◌&&◌, ◌||◌, Float, if◌then◌else◌}
use Rattle.std.specs.Float.Ieee.{neg}
use Rattle.floats.specs.Operators.{decimal, ◌⊕◌, ◌⊖◌, ◌⊗◌, ◌⊘◌, ◌≺◌, ◌≼◌}
use Rattle.floats.specs.Values.{magnitude, minimum, copysign}
use Rattle.brent.specs.declared.Points.{Points}
use Rattle.brent.specs.declared.Ratio.{Ratio}
use Rattle.brent.specs.declared.LastSteps.{LastSteps}

-- const TOL: f64 = 1e-6
abbrev pub TOL : Float
TOL = decimal 1 1000000

-- f64::EPSILON, 2^-52
abbrev pub EPSILON : Float
EPSILON = decimal 1 4503599627370496

-- if fb * fc > 0.0 { c = a; fc = fa; d = b - a; e = d; }
unfoldable pub reset : Points → Points
reset p =
    if decimal 0 1 ≺ p.fb ⊗ p.fc
    then (record { a = p.a; b = p.b; c = p.a; fa = p.fa; fb = p.fb; fc = p.fa; d = p.b ⊖ p.a; e = p.b ⊖ p.a })
    else p

-- if fc.abs() < fb.abs() { a = b; b = c; c = a; fa = fb; fb = fc; fc = fa; }
unfoldable pub swap : Points → Points
swap p =
    if magnitude p.fc ≺ magnitude p.fb
    then (record { a = p.b; b = p.c; c = p.b; fa = p.fb; fb = p.fc; fc = p.fb; d = p.d; e = p.e })
    else p

-- let tol1 = 2.0 * f64::EPSILON * b.abs() + 0.5 * TOL
-- what of it grows with b, and what does not
abbrev pub slope : Float
slope = decimal 2 1 ⊗ EPSILON

abbrev pub base : Float
base = decimal 1 2 ⊗ TOL

unfoldable pub tolerance : Float → Float
tolerance b = slope ⊗ magnitude b ⊕ base

-- let xm = 0.5 * (c - b)
unfoldable pub middle : Float → Float → Float
middle b c = decimal 1 2 ⊗ (c ⊖ b)

-- xm.abs() <= tol1 || fb.abs() < TOL
unfoldable pub converged : Points → Bool
converged p = magnitude (middle p.b p.c) ≼ tolerance p.b || magnitude p.fb ≺ TOL

-- if p_brent > 0.0 { q_brent = -q_brent; } else { p_brent = -p_brent; }
unfoldable pub turned : Float → Float → Ratio
turned p q = if decimal 0 1 ≺ p then (record { p = p; q = neg q }) else (record { p = neg p; q = q })

-- Where the line through two points crosses 0:
-- let s = fb / fa; p_brent = 2.0 * xm * s; q_brent = 1.0 - s;
unfoldable pub by_line : Points → Float → Ratio
by_line p xm =
    let s = p.fb ⊘ p.fa in
    turned (decimal 2 1 ⊗ xm ⊗ s) (decimal 1 1 ⊖ s)

-- Where the parabola through three points, each a quadratic in its error, has the error 0:
-- let s = fb / fa; let q2 = fa / fc; let r2 = fb / fc;
-- p_brent = s * (2.0 * xm * q2 * (q2 - r2) - (b - a) * (r2 - 1.0)); q_brent = (q2 - 1.0) * (r2 - 1.0) * (s - 1.0);
unfoldable pub by_parabola : Points → Float → Ratio
by_parabola p xm =
    let s = p.fb ⊘ p.fa in
    let q2 = p.fa ⊘ p.fc in
    let r2 = p.fb ⊘ p.fc in
    let one = decimal 1 1 in
    turned (s ⊗ (decimal 2 1 ⊗ xm ⊗ q2 ⊗ (q2 ⊖ r2) ⊖ (p.b ⊖ p.a) ⊗ (r2 ⊖ one))) ((q2 ⊖ one) ⊗ (r2 ⊖ one) ⊗ (s ⊖ one))

-- if (a - c).abs() < f64::EPSILON: a and c are the same point
unfoldable pub interpolation : Points → Float → Ratio
interpolation p xm = if magnitude (p.a ⊖ p.c) ≺ EPSILON then (by_line p xm) else (by_parabola p xm)

-- e.abs() >= tol1 && fa.abs() > fb.abs()
unfoldable pub tries : Points → Float → Bool
tries p tol1 = tol1 ≼ magnitude p.e && magnitude p.fb ≺ magnitude p.fa

-- The factor 3.0 of the line below: an accepted interpolation is under half of so many times xm, three quarters of the way to c. The law of S-10 holds it
-- from above; that it is no less is held by an example (Interpolations), where two thirds are taken.
abbrev pub reach : ℕ
reach = 3

-- 2.0 * p_brent < (3.0 * xm * q_brent - (tol1 * q_brent).abs()).min(e.abs() * q_brent.abs())
unfoldable pub accepts : Ratio → Float → Float → Float → Bool
accepts r e tol1 xm = decimal 2 1 ⊗ r.p ≺ minimum (decimal reach 1 ⊗ xm ⊗ r.q ⊖ magnitude (tol1 ⊗ r.q)) (magnitude e ⊗ magnitude r.q)

-- The last two steps: e = d; d = p_brent / q_brent; where the interpolation is tried and accepted, else d = xm; e = d;
unfoldable pub steps : Points → Float → Float → LastSteps
steps p tol1 xm =
    let r = interpolation p xm in
    if tries p tol1 && accepts r p.e tol1 xm then (record { d = r.p ⊘ r.q; e = p.d }) else (record { d = xm; e = xm })

-- if d.abs() > tol1 { d } else { tol1.copysign(xm) }
unfoldable pub step : Float → Float → Float → Float
step d tol1 xm = if tol1 ≺ magnitude d then d else copysign tol1 xm

-- a = b; fa = fb; b += step. The price at b is not obtained yet, and fb is 0.0 until it is.
unfoldable pub advance : Points → Points
advance p =
    let tol1 = tolerance p.b in
    let xm = middle p.b p.c in
    let s = steps p tol1 xm in
    record { a = p.b; b = p.b ⊕ step s.d tol1 xm; c = p.c; fa = p.fb; fb = decimal 0 1; fc = p.fc; d = s.d; e = s.e }
