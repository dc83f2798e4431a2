-- A counted cell holds a number: volatilities above 0 add up to no not-a-number, and a count is a float above 0. Assumes nothing.
use Prim.Native.Nat.{ℕ, suc, zero, ◌+◌, ◌*◌, ◌^◌, ◌≤◌, ◌<◌}
use mathlib.Core.Path.{◌≡◌, refl, sym}
use mathlib.Core.Bool.{Bool, true, false, ◌&&◌, cond, true≢false}
use mathlib.Core.List.{List, [], ◌∷◌}
use native.Mathlib.Omega.{arith}
use native.Mathlib.Nat.{mul-one, lt_of_lt_of_le, lt_of_le_of_lt, mul-lt-mul_of_pos_right}
use lib.Dec.{T, eqb, ltb, lit<, lit≤, ltb→lt}
use lib.Pow.{pow_pos}
use lib.Ieee.{Float, nan, inf, fin, Format, binary64, prec, emax, low, up, down, add, sum, div, round, units, odd, is_nan}
use lib.Ieee.Exact.{round_exact}
use lib.Ieee.Positive.{positive, positive_of_value}
use borrow.Author.Tests.{ne_eqb}
use Rattle.floats.specs.Operators.{decimal, ◌⊕◌, ◌⊘◌}
use Rattle.floats.proofs.Tests.{and_left, and_right, split}
use Rattle.limits.specs.Ranges.{is_strike, is_expiry, is_volatility}
use Rattle.limits.proofs.Ranges.{volatility_positive}
use Rattle.chart.specs.Quotes.{Quote, in_range, all_in_range}
use Rattle.chart.specs.Axis.{place}
use Rattle.chart.specs.Cells.{Axes, counted, added}

-- a number, and the sign is clear
abbrev plus : Float → Bool
plus nan = false
plus (inf s) = cond s false true
plus (fin s m e) = cond s false true

plus_odd : (d q k l : ℕ) → plus (odd d false q k l) ≡ true
unfolding odd
plus_odd d zero k l = refl
plus_odd d (suc q) k l = refl

plus_units : (f : Format) (q k : ℕ) → plus (units f false q k) ≡ true
unfolding units
plus_units f q k = split (ltb (q * 2 ^ k) (2 ^ (low f + suc (emax f)))) (λ t. rw t (plus_odd (suc (prec f)) q k (low f))) (λ t. rw t)

plus_round : (f : Format) (a b : ℕ) → plus (round f false a b) ≡ true
unfolding round
plus_round f a b = plus_units f _ _

plus_positive : (x : Float) → T (positive x) → plus x ≡ true
plus_positive nan p = absurd p
plus_positive (inf s) p = absurd p
plus_positive (fin true m e) p = absurd p
plus_positive (fin false m e) p = refl

plus_number : (x : Float) → plus x ≡ true → is_nan x ≡ false
unfolding is_nan
plus_number nan h = sym h
plus_number (inf s) h = refl
plus_number (fin s m e) h = refl

no : {X : Type 0} → false ≡ true → X
no h = absurd (true≢false (sym h))

plus_add : (x y : Float) → plus x ≡ true → plus y ≡ true → plus (x ⊕ y) ≡ true
unfolding add sum
plus_add nan y a b = no a
plus_add (inf true) y a b = no a
plus_add (inf false) nan a b = no b
plus_add (inf false) (inf true) a b = no b
plus_add (inf false) (inf false) a b = refl
plus_add (inf false) (fin t n d) a b = refl
plus_add (fin true m e) y a b = no a
plus_add (fin false m e) nan a b = no b
plus_add (fin false m e) (inf t) a b = b
plus_add (fin false m e) (fin true n d) a b = no b
plus_add (fin false m e) (fin false n d) a b = plus_round binary64 (m * up e * down d + n * up d * down e) (down e * down d)

plus_div : (x y : Float) → plus x ≡ true → T (positive y) → is_nan (x ⊘ y) ≡ false
unfolding div is_nan
plus_div nan y a b = no a
plus_div (inf s) nan a b = absurd b
plus_div (inf s) (inf t) a b = absurd b
plus_div (inf s) (fin t n d) a b = refl
plus_div (fin s m e) nan a b = absurd b
plus_div (fin s m e) (inf t) a b = absurd b
plus_div (fin true m e) (fin t n d) a b = no a
plus_div (fin false m e) (fin true n d) a b = absurd b
plus_div (fin false m e) (fin false n d) a b =
    let p : 0 < n = ltb→lt 0 n b in
    let a = m * up e * down d in
    let b = n * up d * down e in
    rw (ne_eqb n 0 (λ q. omega arith)) (plus_number (round binary64 false a b) (plus_round binary64 a b))

-- a count, as a float
whole_positive : (n : ℕ) → 0 < n → n < 2 ^ 53 → T (positive (decimal n 1))
whole_positive n h k =
    let small = lt_of_lt_of_le (mul-lt-mul_of_pos_right k (pow_pos 1074)) (lit≤ tt) in
    positive_of_value (round binary64 false n 1) n 1 (round_exact binary64 false n 1 n 1074 (lit< tt) k small (sym (mul-one (n * 2 ^ 1074)))) h

-- the volatilities of a cell added up
plus_added : (x : Axes) (i j : ℕ) (s : Float) (qs : List Quote) → plus s ≡ true → all_in_range qs ≡ true → plus (added s (counted x i j qs)) ≡ true
unfolding added counted all_in_range
plus_added x i j s [] h r = h
plus_added x i j s (q ∷ qs) h r =
    let here = and_left (in_range q) (all_in_range qs) r in
    let w = and_right (is_strike q.strike && is_expiry q.expiry) (is_volatility q.volatility) here in
    let v = plus_positive q.volatility (volatility_positive q.volatility w) in
    let rest = and_right (in_range q) (all_in_range qs) r in
    split (eqb (place x.expiries q.expiry) i && eqb (place x.strikes q.strike) j)
    (λ t. rw t (plus_added x i j (s ⊕ q.volatility) qs (plus_add s q.volatility h v) rest)) (λ t. rw t (plus_added x i j s qs h rest))

pub mean_number : (x : Axes) (i j n : ℕ) (qs : List Quote) → all_in_range qs ≡ true → 0 < n → n ≤ 1024
    → is_nan (added (decimal 0 1) (counted x i j qs) ⊘ decimal n 1) ≡ false
mean_number x i j n qs r h k =
    let sum = plus_added x i j (decimal 0 1) qs (plus_round binary64 0 1) r in
    plus_div (added (decimal 0 1) (counted x i j qs)) (decimal n 1) sum (whole_positive n h (lt_of_le_of_lt k (lit< tt)))
