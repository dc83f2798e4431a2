-- Each entry of the tables is the f64 nearest to its reciprocal. One test, computed over each whole table, compares 1 / d with the middles between the
-- entry and its two neighbours; at a power of two the lower neighbour is half as far. No other f64 is nearer than the neighbours. Assumes nothing.
use mathlib.Core.Path.{◌≡◌, refl, sym, ap, ◌∙◌, subst}
use mathlib.Core.Bool.{Bool, true, false, not, ◌&&◌, cond}
use mathlib.Core.Logic.{◌⊎◌, inl, inr}
use Prim.Native.Nat.{ℕ, zero, suc, ◌+◌, ◌-◌, ◌*◌, ◌/◌, ◌^◌, ◌≤◌, ◌<◌}
use native.Mathlib.Omega.{arith}
use native.Mathlib.Nat.{one-mul, add-mul, mul_assoc, zero-mul, zero-div, mul-pos, le_trans, le_of_eq, lt_irrefl, lt_of_lt_of_le, lt_of_le_of_lt, lt_of_not-le}
use native.Mathlib.Nat.{mul-le-mul_right, mul-lt-mul_of_pos_right, eq-or-lt_of_le, le_antisymm}
use mathlib.Core.List.{List}
use lib.ListN.{length}
use native.Mathlib.Decide.{dec_le}
use borrow.Author.Tests.{ltb-true, ltb-false}
use lib.Dec.{T, leb, ltb, eqb, leb→le, ltb→lt, eqb→eq, nleb→lt, lt→ltb}
use lib.IntN.{ℤ, pos, negsuc, neg_ℤ, nat_abs, ◌-ℤ◌}
use lib.Pow.{pow-add, pow_pos, pow_mono}
use lib.Ieee.{Float, nan, inf, fin, binary64, up, down, size, fits, round}
use lib.Ieee.Fits.{and_l, and_r, round-fits}
use lib.Ieee.Positive.{positive, positive-finite}
use Rattle.floats.specs.Values.{finite}
use Rattle.floats.specs.Wholes.{units_of}
use Rattle.elementary.specs.Tables.{factorial, odd_number, E, L, last_e, last_l, miss, entry_of, polynomial, NearestReciprocal, Rules, Ruled}
use Rattle.elementary.proofs.Table.{every, at, polynomial_of}
use Rattle.elementary.proofs.Largest.{neg_mul}
use Rattle.floats.proofs.Neighbours.{fit_units, next_up, next_down, same_units}

-- ---- the test: x has the 53 digits r, times 2^k units
-- how far below x its lower neighbour is
abbrev step_down : ℕ → ℕ → ℕ
step_down r k = cond (leb r 4503599627370496) (2 ^ (k - 1)) (2 ^ k)

abbrev middles : ℕ → ℕ → ℕ → Bool
middles d r k =
    leb 4503599627370496 r && ltb (2 * 2 ^ 1074) ((2 * (r * 2 ^ k) + 2 ^ k) * d) && ltb ((2 * (r * 2 ^ k) - step_down r k) * d) (2 * 2 ^ 1074)

unfoldable pub is_nearest : ℕ → Float → Bool
is_nearest d x = let n = units_of x in let k = size n - 53 in positive x && eqb (n / 2 ^ k * 2 ^ k) n && middles d (n / 2 ^ k) k

-- ---- the neighbour below
step_le : (r k : ℕ) → 4503599627370496 ≤ r → step_down r k ≤ r * 2 ^ k
step_le r k R = go (leb r 4503599627370496)
  where
    own : 2 ^ k ≤ r * 2 ^ k
    own = let p = pow_pos k in le_trans (le_of_eq (sym (one-mul (2 ^ k)))) (mul-le-mul_right (2 ^ k) (let g : 1 ≤ r = omega arith in g))

    go : (b : Bool) → cond b (2 ^ (k - 1)) (2 ^ k) ≤ r * 2 ^ k
    go true = le_trans (pow_mono {i = k - 1} {j = k} (omega arith)) own
    go false = own

at_power : (r k m j : ℕ) → r ≡ 4503599627370496 → m < 9007199254740992 → m * 2 ^ j < r * 2 ^ k → m * 2 ^ j + 2 ^ (k - 1) ≤ r * 2 ^ k
at_power r zero m j e M h = h' (m * 2 ^ j) (r * 1) h
  where
    h' : (a b : ℕ) → a < b → a + 1 ≤ b
    h' a b l = omega arith
at_power r (suc k) m j e M h =
    let s : suc k ≡ 1 + k = omega arith in
    let t : r * 2 ^ suc k ≡ 9007199254740992 * 2 ^ k =
    ap (λ (x : ℕ). x * 2 ^ suc k) e ∙ ap (λ (x : ℕ). 4503599627370496 * x) (ap (λ (x : ℕ). 2 ^ x) s ∙ pow-add 2 1 k)
    ∙ sym (mul_assoc 4503599627370496 2 (2 ^ k)) in
    let z : suc k - 1 ≡ k = omega arith in
    le_trans (le_of_eq (ap (λ (x : ℕ). m * 2 ^ j + 2 ^ x) z))
    (le_trans (next_down 9007199254740992 k m j (omega arith) M (subst (λ (x : ℕ). m * 2 ^ j < x) t h)) (le_of_eq (sym t)))

step_down_lem : (r k m j : ℕ) → 4503599627370496 ≤ r → m < 9007199254740992 → m * 2 ^ j < r * 2 ^ k → m * 2 ^ j + step_down r k ≤ r * 2 ^ k
step_down_lem r k m j R M h = go (leb r 4503599627370496) (leb→le r 4503599627370496) (nleb→lt r 4503599627370496)
  where
    go : (b : Bool) → (T b → r ≤ 4503599627370496) → (T (not b) → 4503599627370496 < r) → m * 2 ^ j + cond b (2 ^ (k - 1)) (2 ^ k) ≤ r * 2 ^ k
    go true f g = let l = f tt in at_power r k m j (omega arith) M h
    go false f g = next_down r k m j (g tt) M h

-- ---- from the middles to the distances
apart_pos : (a p : ℕ) → nat_abs (pos a -ℤ pos p) ≡ (a - p) + (p - a)
apart_pos a zero = let z : a + 0 ≡ (a - 0) + (0 - a) = omega arith in z
apart_pos a (suc p) = go (ltb a (suc p)) refl
  where
    go : (t : Bool) → ltb a (suc p) ≡ t → nat_abs (cond t (negsuc (suc p - suc a)) (pos (a - suc p))) ≡ (a - suc p) + (suc p - a)
    go true h = let k = ltb-true a (suc p) h in omega arith
    go false h = let k = ltb-false a (suc p) h in omega arith

apart_neg : (a p : ℕ) → nat_abs (neg_ℤ (pos a) -ℤ pos p) ≡ a + p
apart_neg zero zero = refl
apart_neg zero (suc p) = apart_pos 0 (suc p) ∙ (let z : (0 - suc p) + (suc p - 0) ≡ 0 + suc p = omega arith in z)
apart_neg (suc a) zero = apart_pos 0 (suc a) ∙ (let z : (0 - suc a) + (suc a - 0) ≡ suc a + 0 = omega arith in z)
apart_neg (suc a) (suc p) = let z : suc (suc (a + p)) ≡ suc a + suc p = omega arith in z

nearer_above : (a b p : ℕ) → a < b → 2 * p < a + b → (a - p) + (p - a) < (b - p) + (p - b)
nearer_above a b p h k = omega arith

nearer_below : (a b p : ℕ) → b < a → a + b < 2 * p → (a - p) + (p - a) < (b - p) + (p - b)
nearer_below a b p h k = omega arith

nearer_negative : (a b p : ℕ) → 0 < a → a < 2 * p → (a - p) + (p - a) < b + p
nearer_negative a b p h k = omega arith

module _ (d r k P : ℕ) (D : 0 < d) (R : 4503599627370496 ≤ r) (up-mid : 2 * P < (2 * (r * 2 ^ k) + 2 ^ k) * d)
    (down-mid : (2 * (r * 2 ^ k) - step_down r k) * d < 2 * P) where
  abbrev n : ℕ
  n = r * 2 ^ k

  n_pos : 0 < r * 2 ^ k
  n_pos = mul-pos (omega arith) (pow_pos k)

  miss_above : (m j : ℕ) → m < 9007199254740992 → r * 2 ^ k < m * 2 ^ j → (n * d - P) + (P - n * d) < (m * 2 ^ j * d - P) + (P - m * 2 ^ j * d)
  miss_above m j M h =
      let u = next_up r k m j R M h in
      let e : (r + 1) * 2 ^ k ≡ r * 2 ^ k + 2 ^ k = add-mul r 1 (2 ^ k) ∙ ap (λ (x : ℕ). r * 2 ^ k + x) (one-mul (2 ^ k)) in
      let l : 2 * (r * 2 ^ k) + 2 ^ k ≤ r * 2 ^ k + m * 2 ^ j = omega arith in
      nearer_above (n * d) (m * 2 ^ j * d) P (mul-lt-mul_of_pos_right h D)
      (lt_of_lt_of_le up-mid (le_trans (mul-le-mul_right d l) (le_of_eq (add-mul (r * 2 ^ k) (m * 2 ^ j) d))))

  miss_below : (m j : ℕ) → m < 9007199254740992 → m * 2 ^ j < r * 2 ^ k → (n * d - P) + (P - n * d) < (m * 2 ^ j * d - P) + (P - m * 2 ^ j * d)
  miss_below m j M h =
      let u = step_down_lem r k m j R M h in
      let l : r * 2 ^ k + m * 2 ^ j ≤ 2 * (r * 2 ^ k) - step_down r k = omega arith in
      nearer_below (n * d) (m * 2 ^ j * d) P (mul-lt-mul_of_pos_right h D)
      (lt_of_le_of_lt (le_trans (le_of_eq (sym (add-mul (r * 2 ^ k) (m * 2 ^ j) d))) (mul-le-mul_right d l)) down-mid)

  miss_negative : (b : ℕ) → (n * d - P) + (P - n * d) < b + P
  miss_negative b =
      let s = step_le r k R in
      let l : r * 2 ^ k ≤ 2 * (r * 2 ^ k) - step_down r k = omega arith in
      nearer_negative (n * d) b P (mul-pos n_pos D) (lt_of_le_of_lt (mul-le-mul_right d l) down-mid)

-- ---- the floats
miss_pos : (d m : ℕ) (e : ℤ) → miss d (fin false m e) ≡ (units_of (fin false m e) * d - 2 ^ 1074) + (2 ^ 1074 - units_of (fin false m e) * d)
unfolding miss
miss_pos d m e = apart_pos (units_of (fin false m e) * d) (2 ^ 1074)

miss_neg : (d m : ℕ) (e : ℤ) → miss d (fin true m e) ≡ units_of (fin true m e) * d + 2 ^ 1074
unfolding miss
miss_neg d m e = ap (λ (z : ℤ). nat_abs (z -ℤ pos (2 ^ 1074))) (neg_mul (units_of (fin true m e)) d) ∙ apart_neg (units_of (fin true m e) * d) (2 ^ 1074)

miss_positive : (d : ℕ) (x : Float) → T (positive x) → miss d x ≡ (units_of x * d - 2 ^ 1074) + (2 ^ 1074 - units_of x * d)
miss_positive d nan p = absurd p
miss_positive d (inf s) p = absurd p
miss_positive d (fin true m e) p = absurd p
miss_positive d (fin false m e) p = miss_pos d m e

no_units : (e : ℤ) → 0 * up e * 2 ^ 1074 / down e ≡ 0
no_units e = simp (zero-mul, zero-div)

positive_of_units : (m : ℕ) (e : ℤ) → 0 < units_of (fin false m e) → T (positive (fin false m e))
positive_of_units zero e h = absurd (lt_irrefl 0 (subst (λ (n : ℕ). 0 < n) (no_units e) h))
positive_of_units (suc m) e h = lt→ltb 0 (suc m) (omega arith)

module _ (d r k : ℕ) (x : Float) (D : 0 < d) (F : T (fits binary64 x)) (P : T (positive x)) (R : 4503599627370496 ≤ r) (u : units_of x ≡ r * 2 ^ k)
    (up-mid : 2 * 2 ^ 1074 < (2 * (r * 2 ^ k) + 2 ^ k) * d) (down-mid : (2 * (r * 2 ^ k) - step_down r k) * d < 2 * 2 ^ 1074) where
  own_miss : miss d x ≡ (r * 2 ^ k * d - 2 ^ 1074) + (2 ^ 1074 - r * 2 ^ k * d)
  own_miss = miss_positive d x P ∙ ap (λ (n : ℕ). (n * d - 2 ^ 1074) + (2 ^ 1074 - n * d)) u

  farther : (y : Float) → T (fits binary64 y) → T (finite y) → (y ≡ x → ⊥) → miss d x < miss d y
  farther nan f g ne = absurd g
  farther (inf s) f g ne = absurd g
  farther (fin true m e) f g ne =
      subst (λ (n : ℕ). n < miss d (fin true m e)) (sym own_miss)
      (subst (λ (n : ℕ). (r * 2 ^ k * d - 2 ^ 1074) + (2 ^ 1074 - r * 2 ^ k * d) < n) (sym (miss_neg d m e))
      (miss_negative d r k (2 ^ 1074) D R up-mid down-mid (units_of (fin true m e) * d)))
  farther (fin false m e) f g ne = go (fit_units (fin false m e) f tt)
    where
      goal : (a j : ℕ) → units_of (fin false m e) ≡ a * 2 ^ j
          → (r * 2 ^ k * d - 2 ^ 1074) + (2 ^ 1074 - r * 2 ^ k * d) < (a * 2 ^ j * d - 2 ^ 1074) + (2 ^ 1074 - a * 2 ^ j * d)
          → miss d x < miss d (fin false m e)
      goal a j w l =
          subst (λ (n : ℕ). n < miss d (fin false m e)) (sym own_miss)
          (subst (λ (n : ℕ). (r * 2 ^ k * d - 2 ^ 1074) + (2 ^ 1074 - r * 2 ^ k * d) < n)
          (sym (miss_pos d m e ∙ ap (λ (n : ℕ). (n * d - 2 ^ 1074) + (2 ^ 1074 - n * d)) w)) l)

      same : (a j : ℕ) → units_of (fin false m e) ≡ a * 2 ^ j → a * 2 ^ j ≡ r * 2 ^ k → ⊥
      same a j w q =
          ne (same_units (fin false m e) x f F
          (positive_of_units m e (subst (λ (n : ℕ). 0 < n) (sym (w ∙ q)) (n_pos d r k (2 ^ 1074) D R up-mid down-mid)))
          P (w ∙ q ∙ sym u))

      sorted : (a j : ℕ) → a < 9007199254740992 → units_of (fin false m e) ≡ a * 2 ^ j → Dec (r * 2 ^ k ≤ a * 2 ^ j) → miss d x < miss d (fin false m e)
      sorted a j A w (no h) = goal a j w (miss_below d r k (2 ^ 1074) D R up-mid down-mid a j A (lt_of_not-le h))
      sorted a j A w (yes h) = over (eq-or-lt_of_le h)
        where
          over : (r * 2 ^ k ≡ a * 2 ^ j) ⊎ (r * 2 ^ k < a * 2 ^ j) → miss d x < miss d (fin false m e)
          over (inl q) = absurd (same a j w (sym q))
          over (inr l) = goal a j w (miss_above d r k (2 ^ 1074) D R up-mid down-mid a j A l)

      go : ((a : ℕ) × (j : ℕ) × (a < 9007199254740992) × (units_of (fin false m e) ≡ a * 2 ^ j)) → miss d x < miss d (fin false m e)
      go w = sorted w.0 w.1 w.2 w.3 (dec_le (r * 2 ^ k) (w.0 * 2 ^ w.1))

-- the test passed
pub nearest_of_test : (d : ℕ) (x : Float) → 0 < d → T (fits binary64 x) → T (is_nearest d x) → NearestReciprocal d x
unfolding is_nearest
nearest_of_test d x D F t = parts (units_of x) (size (units_of x) - 53) refl t
  where
    parts : (n k : ℕ) → units_of x ≡ n → T (positive x && eqb (n / 2 ^ k * 2 ^ k) n && middles d (n / 2 ^ k) k) → NearestReciprocal d x
    parts n k u t =
        let r = n / 2 ^ k in
        let A = leb 4503599627370496 r in
        let B = ltb (2 * 2 ^ 1074) ((2 * (r * 2 ^ k) + 2 ^ k) * d) in
        let C = ltb ((2 * (r * 2 ^ k) - step_down r k) * d) (2 * 2 ^ 1074) in
        let own = and_l (positive x && eqb (r * 2 ^ k) n) (A && B && C) t in
        let mids = and_r (positive x && eqb (r * 2 ^ k) n) (A && B && C) t in
        let p = and_l (positive x) (eqb (r * 2 ^ k) n) own in
        record {
          held = F;
          sign = p;
          nearer =
              farther d r k x D F p (leb→le 4503599627370496 r (and_l A B (and_l (A && B) C mids)))
              (u ∙ sym (eqb→eq (r * 2 ^ k) n (and_r (positive x) (eqb (r * 2 ^ k) n) own)))
              (ltb→lt (2 * 2 ^ 1074) ((2 * (r * 2 ^ k) + 2 ^ k) * d) (and_r A B (and_l (A && B) C mids)))
              (ltb→lt ((2 * (r * 2 ^ k) - step_down r k) * d) (2 * 2 ^ 1074) (and_r (A && B) C mids));
        }

-- ---- the two tables
rule_e : ℕ → Bool
rule_e i = is_nearest (factorial i) (E i)

rule_l : ℕ → Bool
rule_l i = is_nearest (odd_number i) (L i)

test_e : T (every rule_e 0 (suc last_e))
unfolding every rule_e is_nearest factorial E round size
test_e = tt

test_l : T (every rule_l 0 (suc last_l))
unfolding every rule_l is_nearest L round size
test_l = tt

pub factorial_pos : (i : ℕ) → 0 < factorial i
unfolding factorial
factorial_pos zero = omega arith
factorial_pos (suc i) = mul-pos (omega arith) (factorial_pos i)

fits_E : (i : ℕ) → T (fits binary64 (E i))
unfolding E
fits_E i = round-fits binary64 false 1 (factorial i)

fits_L : (i : ℕ) → T (fits binary64 (L i))
unfolding L
fits_L i = round-fits binary64 false 1 (odd_number i)

pub rules : Rules
unfolding rule_e rule_l
rules =
    record {
      nearest_E = λ (i : ℕ) (h : i ≤ last_e). nearest_of_test (factorial i) (E i) (factorial_pos i) (fits_E i) (at rule_e (suc last_e) test_e i (omega arith));
      nearest_L = λ (i : ℕ) (h : i ≤ last_l). nearest_of_test (odd_number i) (L i) (omega arith) (fits_L i) (at rule_l (suc last_l) test_l i (omega arith));
    }

-- ---- at most one f64 is the nearest, so that the rule fixes an array's entries
reciprocal_unique : (d : ℕ) (x y : Float) → NearestReciprocal d x → NearestReciprocal d y → x ≡ y
reciprocal_unique d x y X Y = same_units x y X.held Y.held X.sign Y.sign (le_antisymm (at_most X Y) (at_most Y X))
  where
    at_most : {a b : Float} → NearestReciprocal d a → NearestReciprocal d b → units_of a ≤ units_of b
    at_most {a} {b} A B = go (dec_le (units_of a) (units_of b))
      where
        apart : units_of b < units_of a → a ≡ b → ⊥
        apart h e = lt_irrefl (units_of b) (subst (λ (z : Float). units_of b < units_of z) e h)

        clash : units_of b < units_of a → ⊥
        clash h =
            let p = A.nearer b B.held (positive-finite b B.sign) (λ (e : b ≡ a). apart h (sym e)) in
            let q = B.nearer a A.held (positive-finite a A.sign) (λ (e : a ≡ b). apart h e) in
            lt_irrefl (miss d a) (omega arith)

        go : Dec (units_of a ≤ units_of b) → units_of a ≤ units_of b
        go (yes l) = l
        go (no f) = absurd (clash (lt_of_not-le f))

pub sum_E : (array : List Float) → Ruled factorial last_e array → (x : Float) → polynomial (entry_of array) (length array - 1) x ≡ polynomial E last_e x
sum_E array R =
    polynomial_of E last_e array R.whole
    (λ (k : ℕ) (h : k < length array). reciprocal_unique (factorial k) (entry_of array k) (E k) (R.nearest k h)
    (rules.nearest_E k (let l = R.whole in omega arith)))

pub sum_L : (array : List Float) → Ruled odd_number last_l array → (x : Float) → polynomial (entry_of array) (length array - 1) x ≡ polynomial L last_l x
sum_L array R =
    polynomial_of L last_l array R.whole
    (λ (k : ℕ) (h : k < length array). reciprocal_unique (odd_number k) (entry_of array k) (L k) (R.nearest k h)
    (rules.nearest_L k (let l = R.whole in omega arith)))
