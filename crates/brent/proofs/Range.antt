-- The next point lies in range: it lies between b and c, which do. Whatever the errors and the last steps are: each step goes from b towards c, and none is
-- longer than their exact distance. A step to the middle is about half of that and the smallest step is less; an interpolation that is accepted is at most
-- half of 3 xm, about three quarters. The exact distance lies in a quarter, i to i + 1 times a power of two, and each rounding keeps the bound that
-- follows from i + 1; since i is at least 4, three quarters of i + 1 are at most i. Assumes nothing.
use Rattle.std.specs.Prelude.{if◌then◌else◌}
use mathlib.Core.Path.{◌≡◌, refl, sym, ap, ◌∙◌, subst}
use Prim.Native.Nat.{ℕ, ◌+◌, ◌-◌, ◌*◌, ◌^◌, ◌≤◌, zero-le}
use native.Mathlib.Nat.{le_trans, le_of_lt, lt_of_not-le, mul-pos, mul-le-mul_right}
use native.Mathlib.Decide.{dec_le}
use native.Mathlib.Omega.{arith}
use mathlib.Core.Bool.{Bool, true, false, ◌&&◌}
use lib.IntN.{ℤ, pos, negsuc}
use lib.Dec.{T, ltb, eqb, leb→le, lit<, lit≤}
use lib.Ieee.{Float, nan, inf, fin, binary64, up, down, neg, add, mul, round, fits}
use lib.Ieee.Fits.{down_pos, and_i, mul-fits, sub-fits, neg-fits}
use lib.Ieee.Bits.{is_true}
use lib.Ieee.Positive.{num, den, positive, le→cross, through, den_pos}
use Rattle.floats.specs.Operators.{decimal, ◌⊕◌, ◌⊖◌, ◌⊗◌, ◌⊘◌, ◌≺◌, ◌≼◌}
use Rattle.floats.specs.Values.{magnitude, minimum, negative, copysign}
use Rattle.floats.proofs.Tests.{by, split, clash, and_left, and_right, or_left_false}
use Rattle.floats.proofs.Signs.{O, not_both_signs, neg_below}
use Rattle.floats.proofs.Short.{Short, short_of, AtMost, le_of_most, most_round, most_scale, Quarter, quarter}
use Rattle.floats.proofs.Minimum.{negative_round}
use Rattle.floats.proofs.Quotients.{Toward, toward_of, negative_scale, quotient_toward}
use Rattle.floats.proofs.Between.{sub_signed, step_within}
use Rattle.limits.specs.Ranges.{is_volatility, within, lowest_volatility, highest_volatility}
use Rattle.limits.proofs.Ranges.{at_least, at_most, volatility_positive}
use Rattle.brent.specs.declared.Points.{Points}
use Rattle.brent.specs.declared.Ratio.{Ratio}
use Rattle.brent.specs.declared.LastSteps.{LastSteps}
use Rattle.brent.specs.Brent.{TOL, EPSILON, reset, swap, slope, base, tolerance, middle, converged, turned, by_line, by_parabola, interpolation, tries}
use Rattle.brent.specs.Brent.{reach, accepts, steps, step, advance}
use Rattle.brent.specs.Feed.{placed, in_range}
use Rattle.brent.specs.Claim.{PointOf, last, best, opposing}
use Rattle.brent.proofs.Near.{low, high, least_positive, most_positive, tolerance_at, tolerance_least, tolerance_most, tolerance_positive}
use Rattle.brent.proofs.Near.{is_half}

-- ---- the range, as fractions: 0.000001 is exactly millionth over 2^72
abbrev millionth : ℕ
millionth = 4722366482869645

low_is : fin false millionth (negsuc 71) ≡ lowest_volatility
low_is = unfold round in refl

low_computed : round binary64 false millionth (2 ^ 72) ≡ fin false millionth (negsuc 71)
low_computed = unfold round in refl

high_is : fin false 5 (pos 1) ≡ highest_volatility
high_is = unfold round in refl

record Inside (b : Float) : Type 0 where
  above : T (positive b)
  from : millionth * den b ≤ num b * 2 ^ 72
  to : num b * 1 ≤ 10 * den b

inside : (b : Float) → is_volatility b ≡ true → Inside b
inside b h =
    let p = volatility_positive b h in
    record {
      above = p;
      from = le→cross (fin false millionth (negsuc 71)) b tt p
          (subst (λ (x : Float). T (x ≼ b)) (sym low_is) (at_least lowest_volatility highest_volatility b h));
      to = le→cross b (fin false 5 (pos 1)) p tt (subst (λ (x : Float). T (b ≼ x)) (sym high_is) (at_most lowest_volatility highest_volatility b h));
    }

volatility_of : (x : Float) → T (round binary64 false millionth (2 ^ 72) ≼ x) × T (x ≼ round binary64 false 10 1) → is_volatility x ≡ true
unfolding within
volatility_of x h = is_true (lowest_volatility ≼ x && x ≼ highest_volatility)
    (and_i (lowest_volatility ≼ x) (x ≼ highest_volatility) (subst (λ (y : Float). T (y ≼ x)) (low_computed ∙ low_is) h.0) h.1)

-- ---- the tolerance at a point in range: at most 1, and more than 8 units
record Tolerance (x : Float) : Type 0 where
  above : T (positive x)
  to : num x ≤ den x
  from : 9 * den x ≤ num x * 2 ^ 1074

small_most : num (slope ⊗ high ⊕ base) ≤ den (slope ⊗ high ⊕ base)
unfolding round mul add
small_most = leb→le (num (slope ⊗ high ⊕ base)) (den (slope ⊗ high ⊕ base)) tt

large_least : 9 * den (slope ⊗ low ⊕ base) ≤ num (slope ⊗ low ⊕ base) * 2 ^ 1074
unfolding round mul add
large_least = leb→le (9 * den (slope ⊗ low ⊕ base)) (num (slope ⊗ low ⊕ base) * 2 ^ 1074) tt

tolerance_in : (b : Float) → is_volatility b ≡ true → Tolerance (tolerance b)
tolerance_in b h =
    let p = volatility_positive b h in
    let l = at_least low high b h in
    let u = at_most low high b h in
    let x = slope ⊗ b ⊕ base in
    let most = slope ⊗ high ⊕ base in
    let least = slope ⊗ low ⊕ base in
    let q = tolerance_positive b p l u in
    let a : num x * den most ≤ num most * den x = le→cross x most q most_positive (tolerance_most b p l u) in
    let c : num least * den x ≤ num x * den least = le→cross least x least_positive q (tolerance_least b p l u) in
    subst Tolerance (sym (tolerance_at b p))
    (record {
      above = q;
      to = (let z : num x * 1 ≤ 1 * den x = through (num x) (num most) 1 (den x) (den most) 1 (den_pos most) a (let y = small_most in omega arith) in
          omega arith);
      from = through 9 (num least) (num x) (2 ^ 1074) (den least) (den x) (den_pos least) large_least c;
    })

-- ---- the interpolation: p is not below 0 once turned, and q is a float
record Sound (r : Ratio) : Type 0 where
  sign : r.p ≺ O ≡ false
  fit : T (fits binary64 r.q)

turned_sound : (p q : Float) → T (fits binary64 q) → Sound (turned p q)
unfolding turned
turned_sound p q f =
    by Sound (λ (t : Bool). if t then (record { p = p; q = neg q }) else (record { p = neg p; q = q })) (O ≺ p)
    (λ t. record { sign = not_below (p ≺ O) refl t; fit = neg-fits binary64 q f })
    (λ t. record { sign = neg_below p ∙ t; fit = f })
  where
    not_below : (x : Bool) → p ≺ O ≡ x → O ≺ p ≡ true → p ≺ O ≡ false
    not_below true e t = absurd (not_both_signs p t e)
    not_below false e t = e

-- whatever its operands are
line_sound : (p : Points) (xm : Float) → Sound (by_line p xm)
unfolding by_line
line_sound p xm = turned_sound _ _ (sub-fits binary64 _ _)

parabola_sound : (p : Points) (xm : Float) → Sound (by_parabola p xm)
unfolding by_parabola
parabola_sound p xm = turned_sound _ _ (mul-fits binary64 _ _)

interpolation_sound : (p : Points) (xm : Float) → Sound (interpolation p xm)
unfolding interpolation
interpolation_sound p xm =
    by Sound (λ (t : Bool). if t then (by_line p xm) else (by_parabola p xm)) (magnitude (p.a ⊖ p.c) ≺ EPSILON) (λ t. line_sound p xm)
    (λ t. parabola_sound p xm)

-- ---- a step of sign t and at most w units, where xm has that sign and is at most w units, and 3 xm at most 2 w
reach_is : fin false reach (pos 0) ≡ decimal reach 1
reach_is = unfold round in refl

sign_of : (u : Bool) (m : ℕ) (e : ℤ) (t : Bool) → negative (fin u m e) ≡ t → u ≡ t
unfolding negative
sign_of u m e t h = h

module _ (t : Bool) (w : ℕ) (S : Short w) (tol1 xm : Float) (k : Tolerance tol1) (mx : AtMost w xm) (sx : negative xm ≡ t)
    (far : magnitude xm ≼ tol1 ≡ false) where
  accepted : (p q c y : Float) → AtMost (2 * w) y → negative y ≡ t → T (fits binary64 q) → p ≺ O ≡ false
      → decimal 2 1 ⊗ p ≺ minimum (y ⊗ q ⊖ magnitude (tol1 ⊗ q)) (magnitude c ⊗ magnitude q) ≡ true → Toward t w (p ⊘ q)
  accepted p q c y my sy f h r = go tol1 y k my sy r
    where
      go : (x y : Float) → Tolerance x → AtMost (2 * w) y → negative y ≡ t
          → decimal 2 1 ⊗ p ≺ minimum (y ⊗ q ⊖ magnitude (x ⊗ q)) (magnitude c ⊗ magnitude q) ≡ true → Toward t w (p ⊘ q)
      go nan y k my sy r = absurd k.above
      go (inf u) y k my sy r = absurd k.above
      go (fin true i g) y k my sy r = absurd k.above
      go (fin false i g) nan k my sy r = absurd my
      go (fin false i g) (inf u) k my sy r = absurd my
      go (fin false i g) (fin u m e) k my sy r =
          quotient_toward t m e i g w S my k.to p q c f h
          (subst (λ (s : Bool). decimal 2 1 ⊗ p ≺ minimum (fin s m e ⊗ q ⊖ magnitude (fin false i g ⊗ q)) (magnitude c ⊗ magnitude q) ≡ true)
          (sign_of u m e t sy) r)

  smallest : Toward t w (copysign tol1 xm)
  unfolding copysign
  smallest = rw sx (go tol1 t k.above far)
    where
      most : (i : ℕ) (g : ℤ) → magnitude xm ≼ fin false i g ≡ false → i * up g * 2 ^ 1074 ≤ w * down g
      most i g o = test (dec_le (i * up g * 2 ^ 1074) (w * down g))
        where
          test : Dec (i * up g * 2 ^ 1074 ≤ w * down g) → i * up g * 2 ^ 1074 ≤ w * down g
          test (yes y) = y
          test (no n) = absurd (clash (is_true _ (le_of_most w xm i g mx (le_of_lt (lt_of_not-le n)))) o)

      go : (x : Float) (u : Bool) → T (positive x) → magnitude xm ≼ x ≡ false → Toward u w (if u then neg (magnitude x) else magnitude x)
      go nan u p o = absurd p
      go (inf s) u p o = absurd p
      go (fin true m e) u p o = absurd p
      go (fin false m e) true p o = unfold neg in unfold magnitude in (most m e o, λ z. refl)
      go (fin false m e) false p o = unfold magnitude in (most m e o, λ z. refl)

  far_step : (d : Float) → tol1 ≺ magnitude d ≡ true → step d tol1 xm ≡ d
  unfolding step
  far_step d z = simp z

  near_step : (d : Float) → tol1 ≺ magnitude d ≡ false → step d tol1 xm ≡ copysign tol1 xm
  unfolding step
  near_step d z = simp z

  stepped : (d : Float) → Toward t w d → Toward t w (step d tol1 xm)
  stepped d h = split (tol1 ≺ magnitude d) (λ z. subst (Toward t w) (sym (far_step d z)) h) (λ z. subst (Toward t w) (sym (near_step d z)) smallest)

  next_step : (p : Points) → AtMost (2 * w) (decimal reach 1 ⊗ xm) → negative (decimal reach 1 ⊗ xm) ≡ t → Toward t w (step (steps p tol1 xm).d tol1 xm)
  unfolding steps
  next_step p my sy =
      let r = interpolation p xm in
      let o = interpolation_sound p xm in
      stepped _
      (by (λ (s : LastSteps). Toward t w s.d) (λ (b : Bool). if b then (record { d = r.p ⊘ r.q; e = p.d }) else (record { d = xm; e = xm }))
      (tries p tol1 && accepts r p.e tol1 xm)
      (λ z. accepted r.p r.q p.e (decimal reach 1 ⊗ xm) my sy o.fit o.sign
      (unfold accepts in and_right (tries p tol1) (accepts r p.e tol1 xm) z))
      (λ z. toward_of t w xm mx sx))

-- ---- b and c in range, c not within the tolerance of b
module _ (n : ℕ) (d : ℤ) (m : ℕ) (e : ℤ) (ib : Inside (fin false n d)) (ic : Inside (fin false m e)) (tol1 : Float) (k : Tolerance tol1)
    (o : magnitude (middle (fin false n d) (fin false m e)) ≼ tol1 ≡ false) where
  abbrev C : ℕ
  C = m * up e * down d

  abbrev B : ℕ
  B = n * up d * down e

  abbrev gap : ℕ
  gap = (C - B) + (B - C)

  abbrev z : ℕ
  z = down e * down d

  abbrev xm : Float
  xm = middle (fin false n d) (fin false m e)

  -- a bound of the exact distance, and so of its half
  difference_most : (v : ℕ) → Short v → gap * 2 ^ 1074 ≤ v * z → AtMost v (fin false m e ⊖ fin false n d)
  difference_most v s h = subst (AtMost v) (sym (sub_signed m e n d)) (most_round v (ltb C B) gap z s (mul-pos (down_pos e) (down_pos d)) h)

  middle_most : (v w : ℕ) → Short v → Short w → v ≤ 2 * w → gap * 2 ^ 1074 ≤ v * z → AtMost w xm
  unfolding middle
  middle_most v w s u l h =
      subst (λ (x : Float). AtMost w (x ⊗ (fin false m e ⊖ fin false n d))) is_half
      (most_scale 1 (negsuc 0) v w (fin false m e ⊖ fin false n d) u (omega arith) (difference_most v s h))

  middle_sign : (v : ℕ) → AtMost v (fin false m e ⊖ fin false n d) → negative xm ≡ ltb C B
  unfolding middle
  middle_sign v h =
      subst (λ (x : Float). negative (x ⊗ (fin false m e ⊖ fin false n d)) ≡ ltb C B) is_half
      (negative_scale 1 (negsuc 0) v (fin false m e ⊖ fin false n d) h ∙ ap negative (sub_signed m e n d) ∙ negative_round (ltb C B) gap z)

  gap_least : 16 * z ≤ gap * 2 ^ 1074
  gap_least = test (dec_le (16 * z) (gap * 2 ^ 1074))
    where
      within_8 : (x : Float) → Tolerance x → AtMost 8 xm → T (magnitude xm ≼ x)
      within_8 nan k h = absurd k.above
      within_8 (inf u) k h = absurd k.above
      within_8 (fin true i g) k h = absurd k.above
      within_8 (fin false i g) k h = le_of_most 8 xm i g h (le_trans (mul-le-mul_right {m = 8} {n = 9} (down g) (lit≤ tt)) k.from)

      test : Dec (16 * z ≤ gap * 2 ^ 1074) → 16 * z ≤ gap * 2 ^ 1074
      test (yes y) = y
      test (no f) = clash (is_true (magnitude xm ≼ tol1)
          (within_8 tol1 k (middle_most 16 8 (short_of 16 0 (lit< tt) zero-le) (short_of 8 0 (lit< tt) zero-le) (lit≤ tt) (le_of_lt (lt_of_not-le f))))) o

  gap_most : gap ≤ 16 * z
  gap_most = spread (m * up e) (down e) (n * up d) (down d) ic.to ib.to
    where
      spread : (c dc b db : ℕ) → c * 1 ≤ 10 * dc → b * 1 ≤ 10 * db → (c * db - b * dc) + (b * dc - c * db) ≤ 16 * (dc * db)
      spread c dc b db h l = let p = mul-le-mul_right db h in let q = mul-le-mul_right dc l in omega arith

  module _ (q : Quarter gap z) where
    abbrev w : ℕ
    w = 3 * (q.i + 1) * 2 ^ q.j

    w_short : Short w
    w_short = let a = q.to_7 in short_of (3 * (q.i + 1)) q.j (omega arith) (let b = q.small in omega arith)

    w_twice : Short (2 * w)
    w_twice =
        let a = q.to_7 in
        subst Short (again (q.i + 1) (2 ^ q.j)) (short_of (6 * (q.i + 1)) q.j (omega arith) (let b = q.small in omega arith))
      where
        again : (a t : ℕ) → 6 * a * t ≡ 2 * (3 * a * t)
        again a t = omega arith

    gap_short : Short ((q.i + 1) * 4 * 2 ^ q.j)
    gap_short = let a = q.to_7 in short_of ((q.i + 1) * 4) q.j (omega arith) (let b = q.small in omega arith)

    w_middle : AtMost w xm
    w_middle = middle_most ((q.i + 1) * 4 * 2 ^ q.j) w gap_short w_short (half (q.i + 1) (2 ^ q.j)) q.upper
      where
        half : (a t : ℕ) → a * 4 * t ≤ 2 * (3 * a * t)
        half a t = omega arith

    w_sign : negative xm ≡ ltb C B
    w_sign = middle_sign ((q.i + 1) * 4 * 2 ^ q.j) (difference_most ((q.i + 1) * 4 * 2 ^ q.j) gap_short q.upper)

    w_gap : w * z ≤ gap * 2 ^ 1074
    w_gap = le_trans (mul-le-mul_right z (quarters q.i (2 ^ q.j) q.from_4)) q.lower
      where
        quarters : (a t : ℕ) → 4 ≤ a → 3 * (a + 1) * t ≤ a * 4 * t
        quarters a t h = mul-le-mul_right t (omega arith)

    -- 3 xm, by the finer bound of xm
    w_reach : AtMost (2 * w) (decimal reach 1 ⊗ xm)
    w_reach =
        subst (λ (x : Float). AtMost (2 * w) (x ⊗ xm)) reach_is
        (most_scale reach (pos 0) (2 * (q.i + 1) * 2 ^ q.j) (2 * w) xm w_twice (as_far (q.i + 1) (2 ^ q.j))
        (middle_most ((q.i + 1) * 4 * 2 ^ q.j) (2 * (q.i + 1) * 2 ^ q.j) gap_short
        (let a = q.to_7 in short_of (2 * (q.i + 1)) q.j (omega arith) (let b = q.small in omega arith)) (half (q.i + 1) (2 ^ q.j)) q.upper))
      where
        as_far : (a t : ℕ) → reach * 1 * (2 * a * t) ≤ 2 * (3 * a * t) * 1
        as_far a t = omega arith

        half : (a t : ℕ) → a * 4 * t ≤ 2 * (2 * a * t)
        half a t = omega arith

    reach_sign : negative (decimal reach 1 ⊗ xm) ≡ ltb C B
    reach_sign = subst (λ (x : Float). negative (x ⊗ xm) ≡ ltb C B) reach_is (negative_scale reach (pos 0) w xm w_middle ∙ w_sign)

    stays : (p : Points) → is_volatility (fin false n d ⊕ step (steps p tol1 xm).d tol1 xm) ≡ true
    stays p =
        volatility_of (fin false n d ⊕ step (steps p tol1 xm).d tol1 xm)
        (step_within millionth (2 ^ 72) 10 1 (lit< tt) (lit< tt) n d ib.from ib.to m e ic.from ic.to w (ltb C B)
        (step (steps p tol1 xm).d tol1 xm) refl w_gap
        (next_step (ltb C B) w w_short tol1 xm k w_middle w_sign o p w_reach reach_sign))

next_inside : (b c : Float) → Inside b → Inside c → (tol1 : Float) → Tolerance tol1 → magnitude (middle b c) ≼ tol1 ≡ false → (p : Points)
    → is_volatility (b ⊕ step (steps p tol1 (middle b c)).d tol1 (middle b c)) ≡ true
next_inside nan c ib ic tol1 k o p = absurd ib.above
next_inside (inf s) c ib ic tol1 k o p = absurd ib.above
next_inside (fin true n d) c ib ic tol1 k o p = absurd ib.above
next_inside (fin false n d) nan ib ic tol1 k o p = absurd ic.above
next_inside (fin false n d) (inf s) ib ic tol1 k o p = absurd ic.above
next_inside (fin false n d) (fin true m e) ib ic tol1 k o p = absurd ic.above
next_inside (fin false n d) (fin false m e) ib ic tol1 k o p =
    stays n d m e ib ic tol1 k o (quarter _ _ (mul-pos (down_pos e) (down_pos d)) (gap_least n d m e ib ic tol1 k o) (gap_most n d m e ib ic tol1 k o)) p

-- THE LAW
pub advance_in_range : (p : Points) → is_volatility p.b ≡ true → is_volatility p.c ≡ true → magnitude (middle p.b p.c) ≼ tolerance p.b ≡ false
    → is_volatility (advance p).b ≡ true
unfolding advance
advance_in_range p hb hc o = next_inside p.b p.c (inside p.b hb) (inside p.c hc) (tolerance p.b) (tolerance_in p.b hb) o p

-- ---- a round: the points only take values asked for
pub record In (p : Points) : Type 0 where
  pub a : is_volatility p.a ≡ true
  pub b : is_volatility p.b ≡ true
  pub c : is_volatility p.c ≡ true

-- each of them must
pub in_of : (p : Points) → in_range p ≡ true → In p
unfolding in_range
in_of p h =
    let a = is_volatility p.a in
    let b = is_volatility p.b in
    let c = is_volatility p.c in
    record { a = and_left a b (and_left (a && b) c h); b = and_right a b (and_left (a && b) c h); c = and_right (a && b) c h }

pub of_in : (p : Points) → In p → in_range p ≡ true
unfolding in_range
of_in p h = simp (h.a, h.b, h.c)

pub in_at : (p : Points) {x : Float} → In p → PointOf p x → is_volatility x ≡ true
in_at p h last = h.a
in_at p h best = h.b
in_at p h opposing = h.c

pub placed_in : (p : Points) (n : ℕ) (error : Float) → In p → In (placed p n error)
unfolding placed
placed_in p n error h =
    let d = p.b ⊖ p.a in
    let later : Points = record { a = p.a; b = p.b; c = p.c; fa = p.fa; fb = error; fc = p.fc; d = p.d; e = p.e } in
    let second : Points = record { a = p.a; b = p.b; c = p.a; fa = p.fa; fb = error; fc = p.fa; d = d; e = d } in
    by In (λ (t : Bool). if t then (record { a = p.a; b = p.b; c = p.c; fa = error; fb = p.fb; fc = p.fc; d = p.d; e = p.e }) else
    (if eqb n 1 then second else later)) (eqb n 0)
    (λ t. record { a = h.a; b = h.b; c = h.c })
    (λ t. by In (λ (t : Bool). if t then second else later) (eqb n 1) (λ u. record { a = h.a; b = h.b; c = h.a })
    (λ u. record { a = h.a; b = h.b; c = h.c }))

pub ready_in : (p : Points) → In p → In (swap (reset p))
ready_in p h = swap_in (reset p) reset_in
  where
    reset_in : In (reset p)
    reset_in =
        unfold reset in by In
        (λ (t : Bool). if t then (record { a = p.a; b = p.b; c = p.a; fa = p.fa; fb = p.fb; fc = p.fa; d = p.b ⊖ p.a; e = p.b ⊖ p.a }) else p)
        (O ≺ p.fb ⊗ p.fc)
        (λ t. record { a = h.a; b = h.b; c = h.a }) (λ t. h)

    swap_in : (p : Points) → In p → In (swap p)
    swap_in p h =
        unfold swap in by In (λ (t : Bool). if t then
        (record { a = p.b; b = p.c; c = p.b; fa = p.fb; fb = p.fc; fc = p.fb; d = p.d; e = p.e }) else p) (magnitude p.fc ≺ magnitude p.fb)
        (λ t. record { a = h.b; b = h.c; c = h.b }) (λ t. h)

pub advance_in : (p : Points) → In p → converged p ≡ false → In (advance p)
unfolding converged
advance_in p h o =
    let n = advance_in_range p h.b h.c (or_left_false (magnitude (middle p.b p.c) ≼ tolerance p.b) (magnitude p.fb ≺ TOL) o) in
    unfold advance in record { a = h.b; b = n; c = h.c }
