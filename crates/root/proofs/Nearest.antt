-- The square root is the nearest f64, by whole-number squares, and no other f64 is. Half the root of a number with 106 to 108 digits is rounded, and
-- the middles to the neighbours are odd halves, whose squares are no whole numbers under the root. Assumes nothing.
use mathlib.Core.Path.{◌≡◌, refl, sym, ap, ◌∙◌, subst}
use mathlib.Core.Bool.{true, false}
use mathlib.Core.Logic.{◌⊎◌, inl, inr}
use Prim.Native.Nat.{ℕ, zero, suc, ◌+◌, ◌-◌, ◌*◌, ◌/◌, ◌%◌, ◌^◌, ◌≤◌, ◌<◌}
use native.Mathlib.Omega.{arith}
use native.Mathlib.Nat.{mul_comm, mul_assoc, mul_left_comm, one-mul, add-mul, le_trans, le_of_eq, le_of_lt, lt_of_lt_of_le, lt_of_le_of_lt, lt_irrefl}
use native.Mathlib.Nat.{lt_of_not-le, le_antisymm, add_comm, mul-le-mul, mul-le-mul_right, mul-lt-mul_of_pos_right, mul-pos, eq-or-lt_of_le, mod-lt}
use native.Mathlib.Decide.{dec_le}
use lib.Dec.{T}
use lib.Pow.{pow-add, pow_pos, pow_mono, shl_lt}
use lib.Ieee.{Float, nan, inf, fin, binary64, odd, fits, size}
use lib.Ieee.Exact.{odd_sign}
use lib.Ieee.Fits.{odd-fits}
use lib.Ieee.Positive.{positive, positive_of_value}
use Rattle.floats.specs.Wholes.{units_of}
use Rattle.root.specs.Root.{NearestRoot, sqrt, root_of_units, half_root, whole_root}
use Rattle.floats.specs.Digits.{Digits, parts_of}
use Rattle.floats.proofs.Digits.{digits_of, places_lt}
use Rattle.root.proofs.Squares.{IsRoot, whole_root_is, q_ge, q_lt, under_even, under_odd, under_even_mul, under_odd_mul}
use Rattle.floats.proofs.Neighbours.{odd_units, fit_units, next_up, next_down, same_units, positive_not_negative}

-- ---- the squares: N is M * 4 ^ k, with M a multiple of 4 and q its root
module _ (x q : ℕ) (a : q * q ≤ 4 * x) (b : 4 * x < (q + 1) * (q + 1)) where
  abbrev R : ℕ
  R = (q + 1) / 2

  pub high_square : 4 * x < (2 * R + 1) * (2 * R + 1)
  high_square =
      lt_of_lt_of_le b (mul-le-mul (let g : q + 1 ≤ 2 * ((q + 1) / 2) + 1 = omega arith in g) (let g : q + 1 ≤ 2 * ((q + 1) / 2) + 1 = omega arith in g))

  -- an odd square is no multiple of 4
  odd_square : (s : ℕ) → (2 * s + 1) * (2 * s + 1) ≡ 4 * x → ⊥
  odd_square s e = omega arith

  pub low_square : (s : ℕ) → s + 1 ≡ R → (2 * s + 1) * (2 * s + 1) < 4 * x
  low_square s e = go (eq-or-lt_of_le (le_trans (mul-le-mul (let g : 2 * s + 1 ≤ q = omega arith in g) (let g : 2 * s + 1 ≤ q = omega arith in g)) a))
    where
      go : ((2 * s + 1) * (2 * s + 1) ≡ 4 * x) ⊎ ((2 * s + 1) * (2 * s + 1) < 4 * x) → (2 * s + 1) * (2 * s + 1) < 4 * x
      go (inl p) = absurd (odd_square s p)
      go (inr l) = l

-- ---- both squares, in units
double : (k : ℕ) → 2 ^ (2 * k) ≡ 2 ^ k * 2 ^ k
double k = ap (λ (x : ℕ). 2 ^ x) (let e : 2 * k ≡ k + k = omega arith in e) ∙ pow-add 2 k k

square_scaled : (s k : ℕ) → s * s * 2 ^ (2 * k) ≡ s * 2 ^ k * (s * 2 ^ k)
square_scaled s k = ap (λ (x : ℕ). s * s * x) (double k) ∙ simp (mul_assoc, mul_left_comm)

square_lt : (u w : ℕ) → u < w → u * u < w * w
square_lt u w h =
    lt_of_lt_of_le (let g : u * u < (u + 1) * (u + 1) = omega arith in g)
    (mul-le-mul (let g : u + 1 ≤ w = omega arith in g) (let g : u + 1 ≤ w = omega arith in g))

-- M is 4 * x, of root q; r is half of q, rounded
module _ (x q k m j : ℕ) (a : q * q ≤ 4 * x) (b : 4 * x < (q + 1) * (q + 1)) (G : 9007199254740992 ≤ q) (M : m < 9007199254740992) where
  pub squares_above : (q + 1) / 2 * 2 ^ k < m * 2 ^ j → 4 * x * 2 ^ (2 * k) < (m * 2 ^ j + (q + 1) / 2 * 2 ^ k) * (m * 2 ^ j + (q + 1) / 2 * 2 ^ k)
  squares_above h =
      let R = (q + 1) / 2 in
      let n = next_up ((q + 1) / 2) k m j (omega arith) M h in
      let e : (2 * ((q + 1) / 2) + 1) * 2 ^ k ≡ ((q + 1) / 2 + 1) * 2 ^ k + (q + 1) / 2 * 2 ^ k = omega arith in
      let l : (2 * ((q + 1) / 2) + 1) * 2 ^ k ≤ m * 2 ^ j + (q + 1) / 2 * 2 ^ k = omega arith in
      lt_of_lt_of_le (mul-lt-mul_of_pos_right (high_square x q a b) (pow_pos (2 * k)))
      (le_trans (le_of_eq (square_scaled (2 * ((q + 1) / 2) + 1) k)) (mul-le-mul l l))

  pub squares_below : m * 2 ^ j < (q + 1) / 2 * 2 ^ k → (m * 2 ^ j + (q + 1) / 2 * 2 ^ k) * (m * 2 ^ j + (q + 1) / 2 * 2 ^ k) < 4 * x * 2 ^ (2 * k)
  squares_below h = go (dec_le ((q + 1) / 2) 4503599627370496)
    where
      go : Dec ((q + 1) / 2 ≤ 4503599627370496) → (m * 2 ^ j + (q + 1) / 2 * 2 ^ k) * (m * 2 ^ j + (q + 1) / 2 * 2 ^ k) < 4 * x * 2 ^ (2 * k)
      go (yes y) =
          let l : m * 2 ^ j + (q + 1) / 2 * 2 ^ k < (2 * ((q + 1) / 2)) * 2 ^ k =
          (let e : 2 * ((q + 1) / 2) * 2 ^ k ≡ (q + 1) / 2 * 2 ^ k + (q + 1) / 2 * 2 ^ k = omega arith in omega arith) in
          let g : 2 * ((q + 1) / 2) ≤ q = omega arith in
          lt_of_lt_of_le (square_lt (m * 2 ^ j + (q + 1) / 2 * 2 ^ k) (2 * ((q + 1) / 2) * 2 ^ k) l)
          (le_trans (le_of_eq (sym (square_scaled (2 * ((q + 1) / 2)) k))) (mul-le-mul_right (2 ^ (2 * k)) (le_trans (mul-le-mul g g) a)))
      go (no f) =
          let s = (q + 1) / 2 - 1 in
          let e : (q + 1) / 2 - 1 + 1 ≡ (q + 1) / 2 = omega arith in
          let n = next_down ((q + 1) / 2) k m j (lt_of_not-le f) M h in
          let c : (2 * ((q + 1) / 2 - 1) + 1) * 2 ^ k + 2 ^ k ≡ (q + 1) / 2 * 2 ^ k + (q + 1) / 2 * 2 ^ k = ap
          (λ (t : ℕ). (2 * ((q + 1) / 2 - 1) + 1) * 2 ^ k + t) (sym (one-mul (2 ^ k))) ∙ sym (add-mul (2 * ((q + 1) / 2 - 1) + 1) 1 (2 ^ k))
          ∙ ap (λ (t : ℕ). t * 2 ^ k) (let w : 2 * ((q + 1) / 2 - 1) + 1 + 1 ≡ (q + 1) / 2 + (q + 1) / 2 = omega arith in w)
          ∙ add-mul ((q + 1) / 2) ((q + 1) / 2) (2 ^ k) in
          let l : m * 2 ^ j + (q + 1) / 2 * 2 ^ k ≤ (2 * ((q + 1) / 2 - 1) + 1) * 2 ^ k = omega arith in
          lt_of_le_of_lt (mul-le-mul l l)
          (lt_of_le_of_lt (le_of_eq (sym (square_scaled (2 * ((q + 1) / 2 - 1) + 1) k)))
          (mul-lt-mul_of_pos_right (low_square x q a b ((q + 1) / 2 - 1) e) (pow_pos (2 * k))))

-- ---- the theorem
four : (n : ℕ) → 4 * (n * 2 ^ 1074) ≡ n * 2 ^ 1076
four n = mul_comm 4 (n * 2 ^ 1074) ∙ mul_assoc n (2 ^ 1074) 4

pub at_positive : (v : Float) → T (positive v) → root_of_units (units_of v) ≡ sqrt v
unfolding sqrt
at_positive nan n = absurd n
at_positive (inf s) n = absurd n
at_positive (fin true m e) n = absurd n
at_positive (fin false zero e) n = absurd n
at_positive (fin false (suc m) e) n = refl

module _ (v : Float) (F : T (fits binary64 v)) (P : T (positive v)) where
  abbrev n : ℕ
  n = units_of v

  abbrev k : ℕ
  k = (size (units_of v) + 969) / 2

  -- what stands under the root, 53 or 54 digits t and 54 zeros
  Under : ℕ → Type 0
  Under t =
      (4503599627370496 ≤ t) × (t + 1 < 18014398509481984) × (units_of v * 2 ^ 1076 / 2 ^ (2 * k) ≡ t * 18014398509481984) ×
      (units_of v * 2 ^ 1076 ≡ t * 18014398509481984 * 2 ^ (2 * k))

  under_hi : (t : ℕ) → Under t → t + 1 < 18014398509481984
  unfolding Under
  under_hi t u = u.1

  some_digits : (d : ℕ) × Digits v d (size (units_of v))
  some_digits =
      let D = digits_of v F P in
      ((parts_of v).digits, subst (λ (x : ℕ). Digits v (parts_of v).digits x) D.places D)

  under : (t : ℕ) × Under t
  unfolding Under
  under = go some_digits.0 some_digits.1 (size (units_of v) % 2) refl (mod-lt (size (units_of v)) (omega arith))
    where
      go : (d : ℕ) → Digits v d (size (units_of v)) → (p : ℕ) → size (units_of v) % 2 ≡ p → p < 2 → (t : ℕ) × Under t
      go d D zero e l = (2 * d, (omega (arith, D.low), omega (arith, D.high), under_even n d (size n) D.value e, under_even_mul n d (size n) D.value e))
      go d D (suc p) e l =
          let o : size (units_of v) % 2 ≡ 0 → ⊥ = λ (z : size (units_of v) % 2 ≡ 0). lt_irrefl 0 (omega arith) in
          (d, (D.low, omega (arith, D.high), under_odd n d (size n) D.value o, under_odd_mul n d (size n) D.value o))

  from_root : (t q : ℕ) → Under t → q * q ≤ t * 18014398509481984 → t * 18014398509481984 < (q + 1) * (q + 1) → (r : Float) → units_of r ≡ (q + 1) / 2 * 2 ^ k
      → T (fits binary64 r) → T (positive r) → NearestRoot v r
  unfolding Under
  from_root t q u a b r e f p =
      let N : 4 * (units_of v * 2 ^ 1074) ≡ 4 * (t * 4503599627370496) * 2 ^ (2 * k) =
      four (units_of v) ∙ u.3 ∙ ap (λ (x : ℕ). x * 2 ^ (2 * k)) (let g : t * 18014398509481984 ≡ 4 * (t * 4503599627370496) = omega arith in g) in
      let G = q_ge t q u.0 u.1 a b in
      let a' : q * q ≤ 4 * (t * 4503599627370496) = omega arith in
      let b' : 4 * (t * 4503599627370496) < (q + 1) * (q + 1) = omega arith in
      record {
        held = f;
        sign = p;
        above = λ (y : Float) fy py h.
            let w = fit_units y fy py in
            subst (λ (x : ℕ). x < (units_of y + units_of r) * (units_of y + units_of r)) (sym N)
            (subst (λ (x : ℕ). 4 * (t * 4503599627370496) * 2 ^ (2 * k) < x * x)
            (ap (λ (x : ℕ). x + (q + 1) / 2 * 2 ^ k) (sym w.3) ∙ ap (λ (x : ℕ). units_of y + x) (sym e))
            (squares_above (t * 4503599627370496) q k w.0 w.1 a' b' G w.2
            (subst (λ (x : ℕ). (q + 1) / 2 * 2 ^ k < x) w.3 (subst (λ (x : ℕ). x < units_of y) e h))));
        below = λ (y : Float) fy py h.
            let w = fit_units y fy py in
            subst (λ (x : ℕ). (units_of y + units_of r) * (units_of y + units_of r) < x) (sym N)
            (subst (λ (x : ℕ). x * x < 4 * (t * 4503599627370496) * 2 ^ (2 * k))
            (ap (λ (x : ℕ). x + (q + 1) / 2 * 2 ^ k) (sym w.3) ∙ ap (λ (x : ℕ). units_of y + x) (sym e))
            (squares_below (t * 4503599627370496) q k w.0 w.1 a' b' G w.2
            (subst (λ (x : ℕ). x < (q + 1) / 2 * 2 ^ k) w.3 (subst (λ (x : ℕ). units_of y < x) e h))));
      }

  root_fits : (t q : ℕ) → Under t → q * q ≤ t * 18014398509481984 → t * 18014398509481984 < (q + 1) * (q + 1)
      → T (fits binary64 (odd 53 false ((q + 1) / 2) k 1074))
  unfolding Under
  root_fits t q u a b =
      let l = q_lt t q u.0 u.1 a b in
      let s = places_lt v F P in
      let r : (q + 1) / 2 < 9007199254740992 = omega arith in
      odd-fits binary64 53 false ((q + 1) / 2) k r (le_of_lt r) (lt_of_lt_of_le (shl_lt 53 k r) (pow_mono {i = 53 + k} {j = 2098} (omega arith)))

  root_sign : (t q : ℕ) → Under t → q * q ≤ t * 18014398509481984 → t * 18014398509481984 < (q + 1) * (q + 1) → T (positive (odd 53 false ((q + 1) / 2) k 1074))
  unfolding Under
  root_sign t q u a b =
      let g = q_ge t q u.0 u.1 a b in
      positive_of_value (odd 53 false ((q + 1) / 2) k 1074) ((q + 1) / 2 * 2 ^ k) (2 ^ 1074) (odd_sign 53 false ((q + 1) / 2) k 1074)
      (mul-pos (omega arith) (pow_pos k))

  sqrt_is : (t : ℕ) → Under t → sqrt v ≡ odd 53 false ((whole_root 54 (t * 18014398509481984) + 1) / 2) k 1074
  unfolding Under root_of_units half_root
  sqrt_is t u = sym (at_positive v P) ∙ ap (λ (x : ℕ). half_root x k) u.2

  pub nearest_root : NearestRoot v (sqrt v)
  unfolding IsRoot
  nearest_root =
      let t = under.0 in
      let u = under.1 in
      let q = whole_root 54 (under.0 * 18014398509481984) in
      let i = whole_root_is 54 (under.0 * 18014398509481984) (under_lt under.0 under.1) in
      subst (λ (r : Float). NearestRoot v r) (sym (sqrt_is t u))
      (from_root t q u i.0 i.1 (odd 53 false ((q + 1) / 2) k 1074) (odd_units ((q + 1) / 2) k) (root_fits t q u i.0 i.1)
      (root_sign t q u i.0 i.1))
    where
      under_lt : (t : ℕ) → Under t → t * 18014398509481984 < 2 ^ 108
      under_lt t u = let l = under_hi t u in omega arith

-- ---- at most one f64 is the nearest
pub root_unique : (v r s : Float) → NearestRoot v r → NearestRoot v s → r ≡ s
root_unique v r s R S = same_units r s R.held S.held R.sign S.sign (le_antisymm (at_most R S) (at_most S R))
  where
    at_most : {x y : Float} → NearestRoot v x → NearestRoot v y → units_of x ≤ units_of y
    at_most {x} {y} X Y = go (dec_le (units_of x) (units_of y))
      where
        clash : units_of y < units_of x → ⊥
        clash h =
            lt_irrefl (4 * (units_of v * 2 ^ 1074))
            (lt_of_lt_of_le (Y.above x X.held (positive_not_negative x X.sign) h)
            (le_of_lt (subst (λ (n : ℕ). n * n < 4 * (units_of v * 2 ^ 1074)) (add_comm (units_of y) (units_of x))
            (X.below y Y.held (positive_not_negative y Y.sign) h))))

        go : Dec (units_of x ≤ units_of y) → units_of x ≤ units_of y
        go (yes l) = l
        go (no f) = absurd (clash (lt_of_not-le f))
