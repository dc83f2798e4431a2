-- A point b in range whose half difference from c is within the tolerance lies within 0.00000101 of c, exactly. Every step of it is monotonicity of rounding:
-- the tolerance at b is at most that at 10, and half of 0.00000101 is above that. Assumes nothing.
use mathlib.Core.Path.{◌≡◌, refl, sym, ap, ◌∙◌, subst}
use Prim.Native.Nat.{ℕ, ◌*◌, ◌^◌, ◌≤◌, ◌<◌}
use native.Mathlib.Nat.{le_of_lt, mul-pos, lt_of_not-le, le_of_suc-le-suc}
use mathlib.Core.Bool.{Bool, true, false, not}
use lib.IntN.{ℤ, negsuc}
use lib.Dec.{T, T_not, lit<}
use lib.Ieee.{Float, nan, inf, fin, binary64, up, down, le, mul, add, round, fits}
use lib.Ieee.Fits.{down_pos}
use lib.Ieee.Order.{round_mono}
use lib.Ieee.Positive.{positive, above, le_trans_positive, above_of_le, between, mul_mono}
use Rattle.floats.specs.Operators.{decimal, ◌⊕◌, ◌⊖◌, ◌⊗◌, ◌≼◌}
use Rattle.floats.specs.Values.{magnitude, finite}
use Rattle.floats.specs.Wholes.{units_of, distance}
use Rattle.floats.proofs.Signs.{positive_magnitude}
use Rattle.floats.proofs.Rounding.{apart, apart_turns, magnitude_sub, magnitude_mul}
use Rattle.floats.proofs.Order.{le_self, add_mono, not_infinite}
use Rattle.floats.proofs.Whole.{units_exact, distance_is, fewer}
use Rattle.floats.proofs.Tests.{holds}
use Rattle.limits.specs.Ranges.{is_volatility, lowest_volatility, highest_volatility}
use Rattle.limits.proofs.Ranges.{at_least, at_most, volatility_positive}
use Rattle.brent.specs.Brent.{slope, base, tolerance, middle}

-- ---- the constants: 0.00000101, 0.5, and the parts of the tolerance
-- 0.00000101 is exactly top over bottom
abbrev top : ℕ
top = 2384795073849171

abbrev bottom : ℕ
bottom = 2361183241434822606848

unfoldable span : Float
span = decimal top bottom

abbrev pub half : Float
half = decimal 1 2

abbrev pub low : Float
low = lowest_volatility

abbrev pub high : Float
high = highest_volatility

span_positive : T (positive span)
unfolding span round
span_positive = tt

half_positive : T (positive half)
unfolding round
half_positive = tt

low_positive : T (positive low)
unfolding round
low_positive = tt

high_positive : T (positive high)
unfolding round
high_positive = tt

slope_positive : T (positive slope)
unfolding round mul
slope_positive = tt

base_positive : T (positive base)
unfolding round mul
base_positive = tt

slope_low : T (positive (slope ⊗ low))
unfolding round mul
slope_low = tt

slope_high : T (positive (slope ⊗ high))
unfolding round mul
slope_high = tt

pub least_positive : T (positive (slope ⊗ low ⊕ base))
unfolding round mul add
least_positive = tt

pub most_positive : T (positive (slope ⊗ high ⊕ base))
unfolding round mul add
most_positive = tt

half_span : T (positive (half ⊗ span))
unfolding span round mul
half_span = tt

-- half of 0.00000101 is above the tolerance at 10
past_span : T (not (half ⊗ span ≼ slope ⊗ high ⊕ base))
unfolding span round mul add le
past_span = tt

pub tolerance_at : (b : Float) → T (positive b) → tolerance b ≡ slope ⊗ b ⊕ base
unfolding tolerance
tolerance_at b p = ap (λ (z : Float). slope ⊗ z ⊕ base) (positive_magnitude b p)

-- ---- a point b in range
module _ (b : Float) (p : T (positive b)) (l : T (low ≼ b)) (h : T (b ≼ high)) where
  above_low : T (slope ⊗ low ≼ slope ⊗ b)
  above_low = mul_mono binary64 slope slope low b slope_positive slope_positive low_positive p (le_self slope slope_positive) l

  below_high : T (slope ⊗ b ≼ slope ⊗ high)
  below_high = mul_mono binary64 slope slope b high slope_positive slope_positive p high_positive (le_self slope slope_positive) h

  slope_b : T (positive (slope ⊗ b))
  slope_b = between (slope ⊗ low) (slope ⊗ b) (slope ⊗ high) slope_low slope_high above_low below_high

  pub tolerance_most : T (slope ⊗ b ⊕ base ≼ slope ⊗ high ⊕ base)
  tolerance_most = add_mono binary64 (slope ⊗ b) (slope ⊗ high) base base slope_b slope_high base_positive base_positive below_high
      (le_self base base_positive)

  pub tolerance_least : T (slope ⊗ low ⊕ base ≼ slope ⊗ b ⊕ base)
  tolerance_least = add_mono binary64 (slope ⊗ low) (slope ⊗ b) base base slope_low slope_b base_positive base_positive above_low
      (le_self base base_positive)

  pub tolerance_positive : T (positive (slope ⊗ b ⊕ base))
  tolerance_positive = between (slope ⊗ low ⊕ base) (slope ⊗ b ⊕ base) (slope ⊗ high ⊕ base) least_positive most_positive tolerance_least tolerance_most

  -- no difference above 0.00000101 comes within the tolerance
  far : (g z : ℕ) → 0 < z → top * z ≤ g * bottom → T (half ⊗ round binary64 false g z ≼ slope ⊗ b ⊕ base) → ⊥
  far g z Z w t =
      let up : T (span ≼ round binary64 false g z) = unfold span in round_mono binary64 top bottom g z (lit< tt) Z w in
      go (round binary64 false g z) (above_of_le span (round binary64 false g z) span_positive up) up t
    where
      infinite : half ⊗ inf false ≡ inf false
      infinite = unfold mul in unfold round in refl

      go : (r : Float) → T (above r) → T (span ≼ r) → T (half ⊗ r ≼ slope ⊗ b ⊕ base) → ⊥
      go nan a u t = a
      go (inf true) a u t = a
      go (inf false) a u t = not_infinite (slope ⊗ b ⊕ base) tolerance_positive (subst (λ (x : Float). T (x ≼ slope ⊗ b ⊕ base)) infinite t)
      go (fin true m e) a u t = a
      go (fin false m e) a u t =
          let r = fin false m e in
          let v : T (half ⊗ span ≼ half ⊗ r) = mul_mono binary64 half half span r half_positive half_positive span_positive a
          (le_self half half_positive) u in
          let q = between (half ⊗ span) (half ⊗ r) (slope ⊗ b ⊕ base) half_span tolerance_positive v t in
          T_not (half ⊗ span ≼ slope ⊗ high ⊕ base) past_span
          (le_trans_positive (half ⊗ span) (slope ⊗ b ⊕ base) (slope ⊗ high ⊕ base) half_span tolerance_positive most_positive
          (le_trans_positive (half ⊗ span) (half ⊗ r) (slope ⊗ b ⊕ base) half_span q tolerance_positive v t) tolerance_most)

-- ---- |xm| is half of one rounding of the exact distance
pub is_half : fin false 1 (negsuc 0) ≡ half
is_half = unfold round in refl

middle_is : (t : Bool) (n : ℕ) (d : ℤ) (s : Bool) (m : ℕ) (e : ℤ)
    → magnitude (middle (fin t n d) (fin s m e)) ≡ half ⊗ round binary64 false (apart s (m * up e * down d) t (n * up d * down e)) (down e * down d)
unfolding middle
middle_is t n d s m e = halves (fin s m e ⊖ fin t n d) ∙ ap (λ (z : Float). half ⊗ z) (magnitude_sub binary64 s m e t n d)
  where
    halves : (x : Float) → magnitude (half ⊗ x) ≡ half ⊗ magnitude x
    halves x = subst (λ (z : Float). magnitude (z ⊗ x) ≡ z ⊗ magnitude x) is_half (magnitude_mul binary64 1 (negsuc 0) x)

span_units : units_of (decimal 101 100000000) * bottom ≡ top * 2 ^ 1074
unfolding round
span_units = refl

pub near : (b c : Float) → T (fits binary64 b) → T (fits binary64 c) → is_volatility b ≡ true → finite c ≡ true → magnitude (middle b c) ≼ tolerance b ≡ true
    → distance b c ≤ units_of (decimal 101 100000000)
near b c f g r w k = go b c f g (volatility_positive b r) (at_least low high b r) (at_most low high b r) (holds (finite c) w)
    (holds (magnitude (middle b c) ≼ tolerance b) k)
  where
    go : (b c : Float) → T (fits binary64 b) → T (fits binary64 c) → T (positive b) → T (low ≼ b) → T (b ≼ high) → T (finite c)
        → T (magnitude (middle b c) ≼ tolerance b) → distance b c ≤ units_of (decimal 101 100000000)
    go nan c f g p l h w k = absurd p
    go (inf t) c f g p l h w k = absurd p
    go (fin t n d) nan f g p l h w k = absurd w
    go (fin t n d) (inf s) f g p l h w k = absurd w
    go (fin t n d) (fin s m e) f g p l h w k =
        let b = fin t n d in
        let gap = apart s (m * up e * down d) t (n * up d * down e) in
        let z = down e * down d in
        let within : T (half ⊗ round binary64 false gap z ≼ slope ⊗ b ⊕ base) =
        subst (λ (x : Float). T (half ⊗ round binary64 false gap z ≼ x)) (tolerance_at b p)
        (subst (λ (x : Float). T (x ≼ tolerance b)) (middle_is t n d s m e) k) in
        let close : gap * bottom ≤ top * z =
        le_of_suc-le-suc (lt_of_not-le (λ (o : top * z < gap * bottom). far b p l h gap z (mul-pos (down_pos e) (down_pos d)) (le_of_lt o) within)) in
        subst (λ (x : ℕ). x ≤ units_of (decimal 101 100000000)) (sym (distance_is t n d s m e ∙ apart_turns t (units_of b) s (units_of (fin s m e))))
        (fewer s t (m * up e) (down e) (n * up d) (down d) (units_of (fin s m e)) (units_of b) (2 ^ 1074) top bottom (units_of (decimal 101 100000000))
        (down_pos e)
        (down_pos d) (lit< tt)
        (units_exact s m e g) (units_exact t n d f) span_units close)
