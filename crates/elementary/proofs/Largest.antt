-- `floor` is the largest whole number not above: both over 2^1074, the comparison is one of whole numbers. Assumes nothing.
use mathlib.Core.Path.{◌≡◌, refl, sym, ap, ◌∙◌, subst}
use mathlib.Core.Bool.{true, false}
use Prim.Native.Nat.{ℕ, zero, suc, ◌+◌, ◌-◌, ◌*◌, ◌/◌, ◌^◌, ◌≤◌, ◌<◌}
use native.Mathlib.Omega.{arith}
use native.Mathlib.Nat.{zero-mul, mul_right_comm, mul_comm, add-mul, one-mul, mul-pos, zero-lt-suc, le_trans, le_of_eq, lt_irrefl, mul-le-mul_right}
use native.Mathlib.Nat.{le_of_mul-le-mul_right, div-mul-le_self, lt-mul-div-succ, le-div_iff_mul-le, div-lt_iff_lt-mul, div-le_of_le-mul, le_antisymm}
use lib.Dec.{T, leb→le, le→leb}
use lib.IntN.{ℤ, pos, negsuc, neg_ℤ, ◌*ℤ◌}
use lib.Signed.{◌≤ℤ◌, le_z_yes}
use lib.Pow.{pow_pos}
use lib.Ieee.{Float, nan, inf, fin, binary64, up, down, fits}
use lib.Ieee.Fits.{down_pos}
use Rattle.floats.specs.Values.{finite}
use Rattle.floats.proofs.Whole.{units_exact}
use Rattle.elementary.specs.Exp.{LargestNotAbove, floor}

-- ---- a / d against whole numbers, both times P
module _ (a d P : ℕ) (D : 0 < d) (Q : 0 < P) where
  abbrev c : ℕ
  c = (a + (d - 1)) / d

  down_holds : a / d * P ≤ a * P / d
  down_holds = (le-div_iff_mul-le D).1 (le_trans (le_of_eq (mul_right_comm (a / d) P d)) (mul-le-mul_right P (div-mul-le_self a d)))

  down_largest : (j : ℕ) → j * P ≤ a * P / d → j ≤ a / d
  down_largest j h =
      (le-div_iff_mul-le D).1 (le_of_mul-le-mul_right (le_trans (le_of_eq (mul_right_comm j d P)) ((le-div_iff_mul-le D).0 h)) Q)

  above : a ≤ c * d
  above =
      let n = subst (λ (x : ℕ). a + (d - 1) < x) (mul_comm d (c + 1)) (lt-mul-div-succ (a + (d - 1)) D) in
      let e : (c + 1) * d ≡ c * d + d = simp (add-mul, one-mul) in
      omega arith

  up_holds : a * P / d ≤ c * P
  up_holds = div-le_of_le-mul d (le_trans (mul-le-mul_right P above) (le_of_eq (mul_right_comm c d P ∙ mul_comm (c * P) d)))

  up_least : a * P / d * d ≡ a * P → (j : ℕ) → a * P / d ≤ j * P → c ≤ j
  up_least exact j h =
      let k : a ≤ j * d = le_of_mul-le-mul_right (le_trans (le_of_eq (sym exact)) (le_trans (mul-le-mul_right d h) (le_of_eq (mul_right_comm j P d)))) Q in
      let e : (j + 1) * d ≡ j * d + d = simp (add-mul, one-mul) in
      let l = (div-lt_iff_lt-mul {k = d} {x = a + (d - 1)} {y = j + 1} D).1 (omega arith) in
      omega arith

-- ---- the signs
neg_le : (a b : ℕ) → b ≤ a → neg_ℤ (pos a) ≤ℤ neg_ℤ (pos b)
neg_le zero zero h = le_z_yes tt
neg_le zero (suc b) h = absurd (lt_irrefl 0 (omega arith))
neg_le (suc a) zero h = le_z_yes tt
neg_le (suc a) (suc b) h = le_z_yes (le→leb b a (omega arith))

neg_le_back : (a b : ℕ) → neg_ℤ (pos a) ≤ℤ neg_ℤ (pos b) → b ≤ a
neg_le_back zero zero h = omega arith
neg_le_back zero (suc b) h = absurd h.le
neg_le_back (suc a) zero h = omega arith
neg_le_back (suc a) (suc b) h = let l = leb→le b a h.le in omega arith

pub neg_mul : (a p : ℕ) → neg_ℤ (pos a) *ℤ pos p ≡ neg_ℤ (pos (a * p))
neg_mul zero p = rw (zero-mul p)
neg_mul (suc a) p = refl

-- nothing above 0 is below minus something
never : (k u : ℕ) → 0 < k → pos k ≤ℤ neg_ℤ (pos u) → ⊥
never k zero K h = let l = leb→le k 0 h.le in lt_irrefl 0 (omega arith)
never k (suc u) K h = h.le

module _ (a d P : ℕ) (D : 0 < d) (Q : 0 < P) (exact : a * P / d * d ≡ a * P) where
  neg_largest : (j : ℤ) → (j *ℤ pos P) ≤ℤ neg_ℤ (pos (a * P / d)) → j ≤ℤ neg_ℤ (pos ((a + (d - 1)) / d))
  neg_largest (pos zero) h =
      neg_le 0 ((a + (d - 1)) / d) (up_least a d P D Q exact 0 (neg_le_back (0 * P) (a * P / d) (rw (zero-mul P) (rw (zero-mul P) at h))))
  neg_largest (pos (suc j)) h = absurd (never (suc j * P) (a * P / d) (mul-pos (zero-lt-suc j) Q) h)
  neg_largest (negsuc j) h = neg_le (suc j) ((a + (d - 1)) / d) (up_least a d P D Q exact (suc j) (neg_le_back (suc j * P) (a * P / d) h))

pos_largest : (a d P : ℕ) → 0 < d → 0 < P → (j : ℤ) → (j *ℤ pos P) ≤ℤ pos (a * P / d) → j ≤ℤ pos (a / d)
pos_largest a d P D Q (pos j) h = le_z_yes (le→leb j (a / d) (down_largest a d P D Q j (leb→le (j * P) (a * P / d) h.le)))
pos_largest a d P D Q (negsuc j) h = le_z_yes tt

pub floor_largest : (x : Float) → T (fits binary64 x) → T (finite x) → LargestNotAbove x (floor x)
unfolding floor
floor_largest nan f p = absurd p
floor_largest (inf s) f p = absurd p
floor_largest (fin false m e) f p =
    let a = m * up e in
    record {
      not_above_lem = le_z_yes (le→leb _ _ (down_holds a (down e) (2 ^ 1074) (down_pos e) (pow_pos 1074)));
      largest = pos_largest a (down e) (2 ^ 1074) (down_pos e) (pow_pos 1074);
    }
floor_largest (fin true m e) f p =
    let a = m * up e in
    let c = (a + (down e - 1)) / down e in
    record {
      not_above_lem =
          subst (λ (z : ℤ). z ≤ℤ neg_ℤ (pos (a * 2 ^ 1074 / down e))) (sym (neg_mul c (2 ^ 1074)))
          (neg_le (c * 2 ^ 1074) (a * 2 ^ 1074 / down e) (up_holds a (down e) (2 ^ 1074) (down_pos e) (pow_pos 1074)));
      largest = neg_largest a (down e) (2 ^ 1074) (down_pos e) (pow_pos 1074) (units_exact true m e f);
    }

-- ---- there is but one
same_whole : (i j : ℤ) → i ≤ℤ j → j ≤ℤ i → i ≡ j
same_whole (pos a) (pos b) h k = ap pos (le_antisymm (leb→le a b h.le) (leb→le b a k.le))
same_whole (pos a) (negsuc b) h k = absurd h.le
same_whole (negsuc a) (pos b) h k = absurd k.le
same_whole (negsuc a) (negsuc b) h k = ap negsuc (le_antisymm (leb→le a b k.le) (leb→le b a h.le))

pub largest_unique : (x : Float) (i j : ℤ) → LargestNotAbove x i → LargestNotAbove x j → i ≡ j
largest_unique x i j I J = same_whole i j (J.largest i I.not_above_lem) (I.largest j J.not_above_lem)
