-- The remainder of exp's argument: for v from -745 to 709 it is at most 23 / 64 in size, and at least 1 / 8 where k is -1075, which is the least k; below
-- -708 k is at most -1021. Assumes nothing.
use mathlib.Core.Path.{◌≡◌, refl, sym, ap, ◌∙◌, subst}
use Prim.Native.Nat.{ℕ, zero, suc, ◌+◌, ◌-◌, ◌*◌, ◌/◌, ◌^◌, ◌≤◌, ◌<◌, zero-le}
use native.Mathlib.Nat.{le_trans, mul-le-mul_right, le_of_mul-le-mul_right, lt_of_mul-lt-mul_right, div-mul-le_self, lt-div-mul-add}
use native.Mathlib.Nat.{mul-one, mul_right_comm, mul-lt-mul_of_pos_right}
use native.Mathlib.Omega.{arith}
use mathlib.Core.Bool.{Bool, true, false, true≢false}
use lib.IntN.{ℤ, pos, negsuc, neg_ℤ, nat_abs}
use lib.Dec.{T, lit<, lit≤, ltb→lt}
use lib.Pow.{pow_pos}
use borrow.Author.Tests.{ltb-true, ltb-false}
use lib.Ieee.{Float, nan, inf, fin, binary64, up, down, neg, lt, round, is_nan, of_int, fits}
use lib.Ieee.Fits.{down_pos, mul-fits}
use lib.Ieee.Exact.{HasValue}
use lib.Ieee.Back.{round_whole}
use Rattle.floats.specs.Operators.{decimal, ◌⊖◌, ◌⊗◌, ◌≺◌}
use Rattle.floats.proofs.Short.{AtMost, own}
use Rattle.floats.proofs.Bounds.{Bounded, AtLeast, Clear, round_bound, bounded_mul, int_bound}
use Rattle.floats.proofs.Grid.{Reads, Within, Multiple, Read, within_add, within_sub, near_mul, value_reads, read, one_sided, most_of, clear_of_read, least_of}
use Rattle.elementary.specs.Exp.{H, J, floor, scaled, remainder}
use Rattle.elementary.specs.Steps.{spans}
use Rattle.elementary.proofs.Scaled.{log2e, k_range}

-- ---- the constants
log2e_is : log2e ≡ fin false 3248660424278399 (negsuc 50)
unfolding round
log2e_is = refl

H_is : H ≡ fin false 2977044471 (negsuc 31)
unfolding round
H_is = refl

pub J_small : Bounded 1042 J
J_small = round_bound 1042 false 190821492927058770002 (10 ^ 30) (lit< tt) (lit< tt) (lit≤ tt)

half_reads : Reads (decimal 1 2) (2 ^ 1073) 0
unfolding round
half_reads = (refl, refl)

-- ---- k is over k - under k
abbrev over : ℤ → ℕ
over (pos i) = i
over (negsuc i) = 0

abbrev under : ℤ → ℕ
under (pos i) = 0
under (negsuc i) = suc i

-- k as a float, exact
whole_value : (s : Bool) (n : ℕ) (x : Float) → HasValue x s n 1 → HasValue x s (n * 2 ^ 1074) (2 ^ 1074)
whole_value s n nan h = h
whole_value s n (inf t) h = h
whole_value s n (fin t m e) h = (h.0, go (m * up e) n (down e) (2 ^ 1074) h.1)
  where
    go : (a n d k : ℕ) → a * 1 ≡ n * d → a * k ≡ n * k * d
    go a n d k h = ap (λ (z : ℕ). z * k) (sym (mul-one a) ∙ h) ∙ mul_right_comm n d k

few_digits : (n : ℕ) → n ≤ 2048 → n ≤ 9007199254740992
few_digits n h = omega arith

int_reads : (k : ℤ) → nat_abs k ≤ 2048 → Reads (of_int binary64 k) (over k * 2 ^ 1074) (under k * 2 ^ 1074)
unfolding of_int
int_reads (pos n) h =
    value_reads false (round binary64 false n 1) (n * 2 ^ 1074)
    (whole_value false n (round binary64 false n 1) (round_whole binary64 false n (few_digits n h)))
int_reads (negsuc n) h =
    value_reads true (round binary64 true (suc n) 1) (suc n * 2 ^ 1074)
    (whole_value true (suc n) (round binary64 true (suc n) 1) (round_whole binary64 true (suc n) (few_digits (suc n) h)))

-- ---- the floor k of p - n units: k ≤ p - n < k + 1
record Floor (K p n : ℕ) (k : ℤ) : Type 0 where
  at_most : over k * K + n ≤ p + under k * K
  next : p + under k * K < over k * K + n + K

-- a / d is p over K
module _ (a d p K : ℕ) (D : 0 < d) (Z : 0 < K) (h : a * K ≡ p * d) where
  cut_down : a / d * K + 0 ≤ p + 0 * K
  cut_down =
      let q = a / d in
      let l : q * K ≤ p = le_of_mul-le-mul_right {k = d} (omega (arith, mul-le-mul_right K (div-mul-le_self a d))) D in
      omega arith

  cut_next : p + 0 * K < a / d * K + 0 + K
  cut_next =
      let q = a / d in
      let g : a < q * d + d = lt-div-mul-add D in
      let l : p < q * K + K = lt_of_mul-lt-mul_right d (omega (arith, mul-lt-mul_of_pos_right g Z)) in
      omega arith

  cut_up : 0 * K + p ≤ 0 + (a + (d - 1)) / d * K
  cut_up =
      let q = (a + (d - 1)) / d in
      let g : a + (d - 1) < q * d + d = lt-div-mul-add D in
      let e : a ≤ q * d = omega arith in
      let l : p ≤ q * K = le_of_mul-le-mul_right {k = d} (omega (arith, mul-le-mul_right K e)) D in
      omega arith

  cut_before : 0 + (a + (d - 1)) / d * K < 0 * K + p + K
  cut_before =
      let q = (a + (d - 1)) / d in
      let g : q * d ≤ a + (d - 1) = div-mul-le_self (a + (d - 1)) d in
      let e : q * d < a + d = omega arith in
      let l : q * K < p + K = lt_of_mul-lt-mul_right d (omega (arith, mul-lt-mul_of_pos_right e Z)) in
      omega arith

floor_reads : (t : Float) (p n : ℕ) → Reads t p n → Floor (2 ^ 1074) p n (floor t)
unfolding floor
floor_reads nan p n h = absurd h
floor_reads (inf s) p n h = absurd h
floor_reads (fin false m e) p n (h, z) = rw z (record {
  at_most = cut_down (m * up e) (down e) p (2 ^ 1074) (down_pos e) (pow_pos 1074) h;
  next = cut_next (m * up e) (down e) p (2 ^ 1074) (down_pos e) (pow_pos 1074) h;
})
floor_reads (fin true m e) p n (h, z) =
    rw z (negated ((m * up e + (down e - 1)) / down e) (cut_up (m * up e) (down e) n (2 ^ 1074) (down_pos e) (pow_pos 1074) h)
    (cut_before (m * up e) (down e) n (2 ^ 1074) (down_pos e) (pow_pos 1074) h))
  where
    negated : (q : ℕ) → 0 * 2 ^ 1074 + n ≤ 0 + q * 2 ^ 1074 → 0 + q * 2 ^ 1074 < 0 * 2 ^ 1074 + n + 2 ^ 1074 → Floor (2 ^ 1074) 0 n (neg_ℤ (pos q))
    negated zero a b = record { at_most = a; next = b }
    negated (suc q) a b = record { at_most = a; next = b }

-- ---- whole numbers: K is 1, and g is 2^-30
-- f is v × 1.4426950408889634, and x × H, up to 31 and 195 millionths
abbrev NearLog2e : ℕ → ℕ → ℕ → Type 0
NearLog2e K v f = (1000000 * f ≤ 1442695 * v + 31 * K) × (1442695 * v ≤ 1000000 * f + K)

abbrev NearH : ℕ → ℕ → ℕ → Type 0
NearH K x f = (1000000 * f ≤ 693147 * x + 195 * K) × (693147 * x ≤ 1000000 * f + K)

-- (Vp - Vn) × 1.442695 is at most X - Y and a half
abbrev NearK : ℕ → ℕ → ℕ → ℕ → ℕ → Type 0
NearK K Vp Vn X Y = 1442695 * Vp + 1000000 * Y ≤ 1442695 * Vn + 1000000 * X + 500040 * K

-- Rp - Rn is at most Vp - Vn less (X - Y) × 0.693147, up to 200 millionths
abbrev NearRest : ℕ → ℕ → ℕ → ℕ → ℕ → ℕ → ℕ → Type 0
NearRest K Vp Vn X Y Rp Rn = 1000000 * Rp + 1000000 * Vn + 693147 * X ≤ 1000000 * Rn + 1000000 * Vp + 693147 * Y + 200 * K

module _ (K g : ℕ) (G : K ≡ 1073741824 * g) where
  near_log2e : (v f : ℕ) → v ≤ 745 * K → f * 2251799813685248 ≤ v * (3248660424278399 * 1) + g * 2251799813685248
      → v * (3248660424278399 * 1) ≤ f * 2251799813685248 + g * 2251799813685248 → NearLog2e K v f
  near_log2e v f h a b = (omega arith, omega arith)

  near_H : (x f : ℕ) → x ≤ 1075 * K → f * 4294967296 ≤ x * (2977044471 * 1) + g * 4294967296 → x * (2977044471 * 1) ≤ f * 4294967296 + g * 4294967296
      → NearH K x f
  near_H x f h a b = (omega arith, omega arith)

  near_k : (Vp Vn Fp Fn Tp Tn X Y h : ℕ) → K ≡ h + h → NearLog2e K Vp Fp → NearLog2e K Vn Fn → Tp + (Fn + 0) ≤ Fp + h + Tn + g
      → Fp + h + Tn ≤ Tp + (Fn + 0) + g → X + Tn ≤ Tp + Y → Tp + Y < X + Tn + K → NearK K Vp Vn X Y × NearK K Vn Vp Y X
  near_k Vp Vn Fp Fn Tp Tn X Y h e (a, b) (c, d) u l x y = (omega arith, omega arith)

  near_rest : (Vp Vn X Y Ap An Bp Bn Dp Dn Rp Rn : ℕ) → NearH K X Ap → NearH K Y An → 1000000 * Bp ≤ K → 1000000 * Bn ≤ K
      → Dp + (Vn + Ap) ≤ Vp + An + Dn + g → Vp + An + Dn ≤ Dp + (Vn + Ap) + g → Rp + (Dn + Bp) ≤ Dp + Bn + Rn + g → Dp + Bn + Rn ≤ Rp + (Dn + Bp) + g
      → NearRest K Vp Vn X Y Rp Rn × NearRest K Vn Vp Y X Rn Rp
  near_rest Vp Vn X Y Ap An Bp Bn Dp Dn Rp Rn (a, b) (c, d) p q u l x y = (omega arith, omega arith)

small_rest : (K Vp Vn X Y Rp Rn : ℕ) → X ≤ 1075 * K → Y ≤ 1075 * K → NearK K Vp Vn X Y → NearRest K Vp Vn X Y Rp Rn → 64 * Rp ≤ 64 * Rn + 23 * K
small_rest K Vp Vn X Y Rp Rn x y a b = omega arith

least_rest : (K Vp Vn X Y Rp Rn : ℕ) → X ≡ 0 → Y ≡ 1075 * K → Vn ≤ 745 * K → NearRest K Vn Vp Y X Rn Rp → 8 * Rn + K ≤ 8 * Rp
least_rest K Vp Vn X Y Rp Rn x y a b = omega arith

few_by : (k : ℤ) → T (spans 1075 k) → (over k ≤ 1023) × (under k ≤ 1075)
few_by (pos i) h = let l = ltb→lt i 1024 h in (omega arith, zero-le)
few_by (negsuc i) h = (zero-le, ltb→lt i 1075 h)

size_by : (k : ℤ) → (over k ≤ 1023) × (under k ≤ 1075) → nat_abs k ≤ 2048
size_by (pos i) h = le_trans h.0 (lit≤ tt)
size_by (negsuc i) h = le_trans h.1 (lit≤ tt)

-- ---- v, of Vp - Vn units
module _ (v : Float) (Vp Vn : ℕ) (is-v : Reads v Vp Vn) (high : Vp ≤ 709 * 2 ^ 1074) (low : Vn ≤ 745 * 2 ^ 1074) (range : T (spans 1075 (floor (scaled v))))
  where
    product : Multiple (v ⊗ log2e) Vp Vn (3248660424278399 * 1) 2251799813685248
    product =
        subst (λ (c : Float). Multiple (v ⊗ c) Vp Vn (3248660424278399 * 1) 2251799813685248) (sym log2e_is)
        (near_mul v 3248660424278399 (negsuc 50) Vp Vn is-v (go (2 ^ 1074) high low))
      where
        go : (K : ℕ) → Vp ≤ 709 * K → Vn ≤ 745 * K → (Vp + Vn) * (3248660424278399 * 1) ≤ 4096 * K * 2251799813685248
        go K h l = omega arith

    near_p : NearLog2e (2 ^ 1074) Vp product.p
    near_p = near_log2e (2 ^ 1074) (2 ^ 1044) refl Vp product.p (le_trans high (lit≤ tt)) product.upper_p product.lower_p

    near_n : NearLog2e (2 ^ 1074) Vn product.n
    near_n = near_log2e (2 ^ 1074) (2 ^ 1044) refl Vn product.n low product.upper_n product.lower_n

    whole : Within (scaled v) (product.p + 2 ^ 1073) (product.n + 0)
    whole =
        within_add (v ⊗ log2e) (decimal 1 2) product.p product.n (2 ^ 1073) 0 product.is half_reads
        (one_sided (2048 * 2 ^ 1074) (v ⊗ log2e) product.p product.n product.is
        (go (2 ^ 1074) Vp product.p product.n (le_trans high (lit≤ tt)) near_p)
        (go (2 ^ 1074) Vn product.n product.p low near_n))
        (lit≤ tt, lit≤ tt)
      where
        go : (K w f n : ℕ) → w ≤ 745 * K → NearLog2e K w f → f ≤ n + 2048 * K
        go K w f n l (a, b) = omega arith

    abbrev k : ℤ
    k = floor (scaled v)

    abbrev X : ℕ
    X = over k * 2 ^ 1074

    abbrev Y : ℕ
    Y = under k * 2 ^ 1074

    floored : Floor (2 ^ 1074) whole.p whole.n k
    floored = floor_reads (scaled v) whole.p whole.n whole.is

    near_v : NearK (2 ^ 1074) Vp Vn X Y × NearK (2 ^ 1074) Vn Vp Y X
    near_v =
        near_k (2 ^ 1074) (2 ^ 1044) refl Vp Vn product.p product.n whole.p whole.n X Y (2 ^ 1073) refl near_p near_n whole.upper whole.lower
        floored.at_most floored.next

    k_few : (over k ≤ 1023) × (under k ≤ 1075)
    k_few = few_by k range

    k_small : nat_abs k ≤ 2048
    k_small = size_by k k_few

    X_few : X ≤ 1075 * 2 ^ 1074
    X_few = mul-le-mul_right {m = over k} {n = 1075} (2 ^ 1074) (le_trans k_few.0 (lit≤ tt))

    Y_few : Y ≤ 1075 * 2 ^ 1074
    Y_few = mul-le-mul_right (2 ^ 1074) k_few.1

    abbrev f : Float
    f = of_int binary64 k

    upper_part : Multiple (f ⊗ H) X Y (2977044471 * 1) 4294967296
    upper_part =
        subst (λ (c : Float). Multiple (f ⊗ c) X Y (2977044471 * 1) 4294967296) (sym H_is)
        (near_mul f 2977044471 (negsuc 31) X Y (int_reads k k_small) (go (2 ^ 1074) X Y X_few Y_few))
      where
        go : (K X Y : ℕ) → X ≤ 1075 * K → Y ≤ 1075 * K → (X + Y) * (2977044471 * 1) ≤ 4096 * K * 4294967296
        go K X Y h l = omega arith

    upper_p : NearH (2 ^ 1074) X upper_part.p
    upper_p = near_H (2 ^ 1074) (2 ^ 1044) refl X upper_part.p X_few upper_part.upper_p upper_part.lower_p

    upper_n : NearH (2 ^ 1074) Y upper_part.n
    upper_n = near_H (2 ^ 1074) (2 ^ 1044) refl Y upper_part.n Y_few upper_part.upper_n upper_part.lower_n

    lower_part : Read (2 ^ 1053) (f ⊗ J)
    lower_part =
        read (2 ^ 1053) (f ⊗ J) (mul-fits binary64 f J) (bounded_mul 1085 1042 1053 f J (lit< tt) (lit≤ tt) (int_bound k k_small) J_small)

    first : Within (v ⊖ f ⊗ H) (Vp + upper_part.n) (Vn + upper_part.p)
    first =
        within_sub v (f ⊗ H) Vp Vn upper_part.p upper_part.n is-v upper_part.is
        (le_trans high (lit≤ tt), le_trans low (lit≤ tt))
        (go (2 ^ 1074) X upper_part.p X_few upper_p.0, go (2 ^ 1074) Y upper_part.n Y_few upper_n.0)
      where
        go : (K x f : ℕ) → x ≤ 1075 * K → 1000000 * f ≤ 693147 * x + 195 * K → f ≤ 2048 * K
        go K x f h l = omega arith

    rest : Within (remainder v k) (first.p + lower_part.n) (first.n + lower_part.p)
    rest =
        within_sub (v ⊖ f ⊗ H) (f ⊗ J) first.p first.n lower_part.p lower_part.n first.is lower_part.is
        (one_sided (2048 * 2 ^ 1074) (v ⊖ f ⊗ H) first.p first.n first.is
        (up_to (2 ^ 1074) (2 ^ 1044) refl Y upper_part.p upper_part.n first.p first.n high Y_few upper_n.0 first.upper)
        (from (2 ^ 1074) (2 ^ 1044) refl X upper_part.p upper_part.n first.p first.n low X_few upper_p.0 first.lower))
        (le_trans lower_part.most.0 (lit≤ tt), le_trans lower_part.most.1 (lit≤ tt))
      where
        up_to : (K g : ℕ) → K ≡ 1073741824 * g → (Y a b p n : ℕ) → Vp ≤ 709 * K → Y ≤ 1075 * K → 1000000 * b ≤ 693147 * Y + 195 * K
            → p + (Vn + a) ≤ Vp + b + n + g → p ≤ n + 2048 * K
        up_to K g e Y a b p n h l c d = omega arith

        from : (K g : ℕ) → K ≡ 1073741824 * g → (X a b p n : ℕ) → Vn ≤ 745 * K → X ≤ 1075 * K → 1000000 * a ≤ 693147 * X + 195 * K
            → Vp + b + n ≤ p + (Vn + a) + g → n ≤ p + 2048 * K
        from K g e X a b p n h l c d = omega arith

    near_r : NearRest (2 ^ 1074) Vp Vn X Y rest.p rest.n × NearRest (2 ^ 1074) Vn Vp Y X rest.n rest.p
    near_r =
        near_rest (2 ^ 1074) (2 ^ 1044) refl Vp Vn X Y upper_part.p upper_part.n lower_part.p lower_part.n first.p first.n rest.p rest.n
        upper_p upper_n (tiny lower_part.p (2 ^ 1053) lower_part.most.0) (tiny lower_part.n (2 ^ 1053) lower_part.most.1) first.upper
        first.lower rest.upper rest.lower
      where
        tiny : (b w : ℕ) → b ≤ w → 1000000 * b ≤ 2097152 * w
        tiny b w h = omega arith

    -- the two laws
    rest_small : AtMost (23 * 2 ^ 1068) (remainder v k)
    rest_small =
        most_of (23 * 2 ^ 1068) (remainder v k) rest.p rest.n rest.is
        (one_sided (23 * 2 ^ 1068) (remainder v k) rest.p rest.n rest.is
        (go (2 ^ 1068) rest.p rest.n (small_rest (2 ^ 1074) Vp Vn X Y rest.p rest.n X_few Y_few near_v.0 near_r.0))
        (go (2 ^ 1068) rest.n rest.p (small_rest (2 ^ 1074) Vn Vp Y X rest.n rest.p Y_few X_few near_v.1 near_r.1)))
      where
        go : (w p n : ℕ) → 64 * p ≤ 64 * n + 23 * (64 * w) → p ≤ n + 23 * w
        go w p n h = omega arith

    rest_least : k ≡ negsuc 1074 → Clear (remainder v k) × AtLeast (8 * 2 ^ 1068) (remainder v k)
    rest_least e =
        let h =
        least_rest (2 ^ 1074) Vp Vn X Y rest.p rest.n (ap (λ (z : ℤ). over z * 2 ^ 1074) e) (ap (λ (z : ℤ). under z * 2 ^ 1074) e) low near_r.1 in
        let l = go (2 ^ 1068) rest.p rest.n (pow_pos 1068) h in (
          clear_of_read (remainder v k) rest.p rest.n rest.is l.0,
          least_of (8 * 2 ^ 1068) (remainder v k) rest.p rest.n rest.is l.0 l.1,
        )
      where
        go : (w p n : ℕ) → 0 < w → 8 * n + 64 * w ≤ 8 * p → (n < p) × (8 * w ≤ p)
        go w p n z h = (omega arith, omega arith)

-- ---- v by the tests of exp
record Argument (v : Float) : Type 0 where
  p : ℕ
  n : ℕ
  is : Reads v p n
  high : p ≤ 709 * 2 ^ 1074
  low : n ≤ 745 * 2 ^ 1074
  range : T (spans 1075 (floor (scaled v)))

-- a / d, at most c, of w units
count_most : (a d w c K : ℕ) → 0 < d → a * K ≡ w * d → a ≤ c * d → w ≤ c * K
count_most a d w c K D h l = le_of_mul-le-mul_right {k = d} (omega (arith, mul-le-mul_right K l)) D

count_least : (a d w c K : ℕ) → 0 < d → a * K ≡ w * d → c * d ≤ a → c * K ≤ w
count_least a d w c K D h l = le_of_mul-le-mul_right {k = d} (omega (arith, mul-le-mul_right K l)) D

argument : (v : Float) → T (fits binary64 v) → is_nan v ≡ false → decimal 709 1 ≺ v ≡ false → v ≺ neg (decimal 745 1) ≡ false → Argument v
unfolding lt round neg is_nan
argument nan f n h l = absurd (true≢false n)
argument (inf false) f n h l = absurd (true≢false h)
argument (inf true) f n h l = absurd (true≢false l)
argument (fin false m e) f n h l =
    let o = own false m e f in
    let k = ltb-false (709 * 1 * down e) (m * up e * 1) h in
    let u = count_most (m * up e) (down e) o.count 709 (2 ^ 1074) (down_pos e) o.exact (omega arith) in
    record { p = o.count; n = 0; is = (o.exact, refl); high = u; low = zero-le; range = k_range (fin false m e) n h l }
argument (fin true m e) f n h l =
    let o = own true m e f in
    let k = ltb-false (745 * 1 * down e) (m * up e * 1) l in
    let u = count_most (m * up e) (down e) o.count 745 (2 ^ 1074) (down_pos e) o.exact (omega arith) in
    record { p = 0; n = o.count; is = (o.exact, refl); high = zero-le; low = u; range = k_range (fin true m e) n h l }

below_708 : (v : Float) (p n : ℕ) → Reads v p n → v ≺ neg (decimal 708 1) ≡ true → (p ≡ 0) × (708 * 2 ^ 1074 ≤ n)
unfolding lt round neg
below_708 nan p n r h = absurd r
below_708 (inf s) p n r h = absurd r
below_708 (fin false m e) p n r h = absurd (true≢false (sym h))
below_708 (fin true m e) p n (r, z) h =
    let k = ltb-true (177 * 4 * down e) (m * up e * 1) h in (z, count_least (m * up e) (down e) n 708 (2 ^ 1074) (down_pos e) r (omega arith))

-- k from -1075 to -1021
pub record Deep (k : ℤ) : Type 0 where
  pub i : ℕ
  pub is : k ≡ negsuc i
  pub from : 1020 ≤ i
  pub upto : i ≤ 1074

deep_by : (k : ℤ) (K : ℕ) → over k * K + 1020 * K < under k * K → under k ≤ 1075 → Deep k
deep_by (pos i) K h l = absurd (omega arith)
deep_by (negsuc i) K h l =
    let z : 1020 < suc i = lt_of_mul-lt-mul_right K {m = 1020} {n = suc i} (omega arith) in record { i = i; is = refl; from = omega arith; upto = omega arith }

module _ (v : Float) (fit : T (fits binary64 v)) (number : is_nan v ≡ false) (high : decimal 709 1 ≺ v ≡ false) (low : v ≺ neg (decimal 745 1) ≡ false) where
  abbrev k_of : ℤ
  k_of = floor (scaled v)

  a : Argument v
  a = argument v fit number high low

  pub remainder_small : AtMost (23 * 2 ^ 1068) (remainder v k_of)
  remainder_small = rest_small v a.p a.n a.is a.high a.low a.range

  pub remainder_least : k_of ≡ negsuc 1074 → Clear (remainder v k_of) × AtLeast (8 * 2 ^ 1068) (remainder v k_of)
  remainder_least = rest_least v a.p a.n a.is a.high a.low a.range

  pub k_deep : v ≺ neg (decimal 708 1) ≡ true → Deep k_of
  k_deep h =
      let b = below_708 v a.p a.n a.is h in
      deep_by k_of (2 ^ 1074)
      (go (2 ^ 1074) a.p a.n (over k_of * 2 ^ 1074) (under k_of * 2 ^ 1074) (pow_pos 1074) b.0 b.1
      (near_v v a.p a.n a.is a.high a.low a.range).1)
      (k_few v a.p a.n a.is a.high a.low a.range).1
    where
      go : (K p n X Y : ℕ) → 0 < K → p ≡ 0 → 708 * K ≤ n → NearK K n p Y X → X + 1020 * K < Y
      go K p n X Y z e h l = omega arith
