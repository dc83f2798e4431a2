-- The floor of a float by a cut toward zero and one comparison. Assumes nothing.
use mathlib.Core.Path.{◌≡◌, refl, sym, ap, ◌∙◌, subst}
use mathlib.Core.Bool.{true, false, true≢false}
use Prim.Native.Nat.{ℕ, zero, suc, ◌+◌, ◌-◌, ◌*◌, ◌/◌, ◌^◌, ◌≤◌, ◌<◌, min}
use native.Mathlib.Omega.{arith}
use native.Mathlib.Numerals.{add-one}
use native.Mathlib.Nat.{add-mul, one-mul, zero-mul, add-zero, mul_comm, mul_right_comm, mul-one, mul-le-mul_right, lt_of_mul-lt-mul_right}
use native.Mathlib.Nat.{le_of_mul-le-mul_right, div-eq_of_lt-le, div-mul-le_self, div-lt_iff_lt-mul, lt-mul-div-succ}
use lib.Dec.{T, lt→ltb, le→leb}
use lib.IntN.{ℤ, pos, negsuc, neg_ℤ, ◌-ℤ◌}
use lib.Ieee.{Float, nan, inf, fin, binary64, up, down, lt, le, of_int, in_float, to_signed, round}
use lib.Signed.{mag}
use mir.Syntax.{w64}
use mir.Val.{SFits}
use lib.Ieee.Exact.{HasValue}
use lib.Ieee.Fits.{down_pos}
use lib.Ieee.Back.{round_whole}
use borrow.Author.Tests.{ltb-true, ltb-false, le-ltb, lt-ltb}
use Rattle.elementary.specs.Exp.{floor}
use Rattle.elementary.specs.Steps.{Small}

-- ---- whole numbers: a / d rounded up, for d above 0
module _ (a d : ℕ) (D : 0 < d) where
  next : a < (a / d + 1) * d
  next = subst (λ (x : ℕ). a < x) (mul_comm d (a / d + 1)) (lt-mul-div-succ a D)

  under : a / d * d ≤ a
  under = div-mul-le_self a d

  pub ceil_up : a / d * d < a → (a + (d - 1)) / d ≡ a / d + 1
  ceil_up h =
      let n = next in
      let q = a / d in
      let e : (q + 1) * d ≡ q * d + d = simp (add-mul, one-mul) in
      let g : (q + 1 + 1) * d ≡ q * d + d + d = simp (add-mul, one-mul) in
      div-eq_of_lt-le d (omega arith) (omega arith)

  pub ceil_same : a ≤ a / d * d → (a + (d - 1)) / d ≡ a / d
  ceil_same h =
      let u = under in
      let q = a / d in
      let e : (q + 1) * d ≡ q * d + d = simp (add-mul, one-mul) in
      div-eq_of_lt-le d (omega arith) (omega arith)

-- ---- t against the whole number q, as a float y: with t's sign
cross : (a d x u q : ℕ) → 0 < u → x * 1 ≡ q * u → x * d < a * u → q * d < a
cross a d x u q U e h =
    lt_of_mul-lt-mul_right u
    (subst (λ (z : ℕ). z < a * u) (ap (λ (z : ℕ). z * d) (sym (mul-one x) ∙ e) ∙ mul_right_comm q u d) h)

cross_le : (a d x u q : ℕ) → 0 < u → x * 1 ≡ q * u → a * u ≤ x * d → a ≤ q * d
cross_le a d x u q U e h =
    le_of_mul-le-mul_right
    (subst (λ (z : ℕ). a * u ≤ z) (ap (λ (z : ℕ). z * d) (sym (mul-one x) ∙ e) ∙ mul_right_comm q u d) h) U

cross_ge : (a d x u q : ℕ) → x * 1 ≡ q * u → q * d ≤ a → x * d ≤ a * u
cross_ge a d x u q e h =
    subst (λ (z : ℕ). z ≤ a * u) (mul_right_comm q d u ∙ ap (λ (z : ℕ). z * d) (sym e ∙ mul-one x)) (mul-le-mul_right u h)

not_below : (m : ℕ) (e : ℤ) (y : Float) → HasValue y false (m * up e / down e) 1 → lt (fin false m e) y ≡ false
unfolding lt
not_below m e nan v = absurd v
not_below m e (inf s) v = absurd v
not_below m e (fin true p d) v = refl
not_below m e (fin false p d) v =
    le-ltb (m * up e * down d) (p * up d * down e)
    (cross_ge (m * up e) (down e) (p * up d) (down d) (m * up e / down e) v.1 (under (m * up e) (down e) (down_pos e)))

-- t is below y, and so its size above q; and t is not below y
neg_below : (m : ℕ) (e : ℤ) (y : Float) (q : ℕ) → HasValue y true q 1 → lt (fin true m e) y ≡ true → q * down e < m * up e
unfolding lt
neg_below m e nan q v h = absurd v
neg_below m e (inf s) q v h = absurd v
neg_below m e (fin false p d) q v h = absurd (true≢false (sym v.0))
neg_below m e (fin true p d) q v h = cross (m * up e) (down e) (p * up d) (down d) q (down_pos d) v.1 (ltb-true (p * up d * down e) (m * up e * down d) h)

neg_not_below : (m : ℕ) (e : ℤ) (y : Float) (q : ℕ) → HasValue y true q 1 → lt (fin true m e) y ≡ false → m * up e ≤ q * down e
unfolding lt
neg_not_below m e nan q v h = absurd v
neg_not_below m e (inf s) q v h = absurd v
neg_not_below m e (fin false p d) q v h = absurd (true≢false (sym v.0))
neg_not_below m e (fin true p d) q v h =
    cross_le (m * up e) (down e) (p * up d) (down d) q (down_pos d) v.1 (ltb-false (p * up d * down e) (m * up e * down d) h)

-- at q = 0 the float is +0
zero_below : (m : ℕ) (e : ℤ) → lt (fin true m e) (of_int binary64 (pos 0)) ≡ true → 0 < m * up e
unfolding lt of_int round
zero_below m e h = let l = ltb-true 0 (m * up e * 1 + 0 * down e) h in omega arith

zero_not_below : (m : ℕ) (e : ℤ) → lt (fin true m e) (of_int binary64 (pos 0)) ≡ false → m * up e ≤ 0
unfolding lt of_int round
zero_not_below m e h = let l = ltb-false 0 (m * up e * 1 + 0 * down e) h in omega arith

-- ---- the law
small_cut : (a d : ℕ) → 0 < d → a < 2048 * d → min (a / d) 9223372036854775807 ≡ a / d
small_cut a d D h = let l = (div-lt_iff_lt-mul {k = d} {x = a} {y = 2048} D).1 h in omega arith

small_cut2 : (a d : ℕ) → 0 < d → a < 2048 * d → min (a / d) 9223372036854775808 ≡ a / d
small_cut2 a d D h = let l = (div-lt_iff_lt-mul {k = d} {x = a} {y = 2048} D).1 h in omega arith

-- the cut of t
abbrev pub cut_of : Float → ℤ
cut_of nan = pos 0
cut_of (inf s) = pos 0
cut_of (fin false m e) = pos (m * up e / down e)
cut_of (fin true m e) = neg_ℤ (pos (m * up e / down e))

pub cut_is : (t : Float) → Small t → to_signed 63 t ≡ cut_of t
unfolding to_signed
cut_is nan h = absurd h
cut_is (inf s) h = absurd h
cut_is (fin false m e) h = ap pos (small_cut (m * up e) (down e) (down_pos e) h)
cut_is (fin true m e) h = ap (λ (n : ℕ). neg_ℤ (pos n)) (small_cut2 (m * up e) (down e) (down_pos e) h)

above_go : (m : ℕ) (e : ℤ) (q : ℕ) → m * up e / down e ≡ q → q < 2048 → lt (fin true m e) (of_int binary64 (neg_ℤ (pos q))) ≡ true → neg_ℤ (pos q) -ℤ pos 1
    ≡ floor (fin true m e)
unfolding floor of_int
above_go m e zero i s h =
    let z = zero_below m e h in
    let c = ceil_up (m * up e) (down e) (down_pos e) (rw (i, zero-mul) z) in
    ap (λ (n : ℕ). neg_ℤ (pos n)) (sym (c ∙ ap (λ (n : ℕ). n + 1) i))
above_go m e (suc j) i s h =
    let b = neg_below m e (round binary64 true (suc j) 1) (suc j) (round_whole binary64 true (suc j) (omega arith)) h in
    let c = ceil_up (m * up e) (down e) (down_pos e) (rw i b) in
    ap (λ (n : ℕ). negsuc (suc n)) (add-zero j) ∙ ap (λ (n : ℕ). neg_ℤ (pos n)) (sym (c ∙ ap (λ (n : ℕ). n + 1) i ∙ add-one (suc j)))

level_go : (m : ℕ) (e : ℤ) (q : ℕ) → m * up e / down e ≡ q → q < 2048 → lt (fin true m e) (of_int binary64 (neg_ℤ (pos q))) ≡ false → neg_ℤ (pos q)
    ≡ floor (fin true m e)
unfolding floor of_int
level_go m e zero i s h =
    let z = zero_not_below m e h in
    let c = ceil_same (m * up e) (down e) (down_pos e) (rw (i, zero-mul) z) in
    ap (λ (n : ℕ). neg_ℤ (pos n)) (sym (c ∙ i))
level_go m e (suc j) i s h =
    let b = neg_not_below m e (round binary64 true (suc j) 1) (suc j) (round_whole binary64 true (suc j) (omega arith)) h in
    let c = ceil_same (m * up e) (down e) (down_pos e) (rw i b) in
    ap (λ (n : ℕ). neg_ℤ (pos n)) (sym (c ∙ i))

small_div : (a d : ℕ) → 0 < d → a < 2048 * d → a / d < 2048
small_div a d D h = (div-lt_iff_lt-mul {k = d} {x = a} {y = 2048} D).1 h

pub floor_above : (t : Float) → Small t → lt t (of_int binary64 (cut_of t)) ≡ true → cut_of t -ℤ pos 1 ≡ floor t
unfolding of_int
floor_above nan s h = absurd s
floor_above (inf u) s h = absurd s
floor_above (fin false m e) s h =
    let l = small_div (m * up e) (down e) (down_pos e) s in
    absurd (true≢false (sym h ∙ not_below m e (round binary64 false (m * up e / down e) 1) (round_whole binary64 false (m * up e / down e) (omega arith))))
floor_above (fin true m e) s h = above_go m e (m * up e / down e) refl (small_div (m * up e) (down e) (down_pos e) s) h

pub floor_level : (t : Float) → Small t → lt t (of_int binary64 (cut_of t)) ≡ false → cut_of t ≡ floor t
unfolding floor
floor_level nan s h = absurd s
floor_level (inf u) s h = absurd s
floor_level (fin false m e) s h = refl
floor_level (fin true m e) s h = level_go m e (m * up e / down e) refl (small_div (m * up e) (down e) (down_pos e) s) h

-- ---- what the machine's operations ask
less_one : (z : ℤ) → mag z < 2048 → mag (z -ℤ pos 1) < 4096
less_one (pos zero) h = omega arith
less_one (pos (suc n)) h = rw (le-ltb (suc n) 1 (omega arith)) (omega arith)
less_one (negsuc n) h = omega arith

neg_mag : (n : ℕ) → n < 2048 → mag (neg_ℤ (pos n)) < 2048
neg_mag zero h = h
neg_mag (suc n) h = omega arith

pub cut_mag : (t : Float) → Small t → mag (cut_of t) < 2048
cut_mag nan s = absurd s
cut_mag (inf u) s = absurd s
cut_mag (fin false m e) s = small_div (m * up e) (down e) (down_pos e) s
cut_mag (fin true m e) s = neg_mag (m * up e / down e) (small_div (m * up e) (down e) (down_pos e) s)

pub cut_fits : (t : Float) → Small t → SFits w64 (cut_of t)
cut_fits t s = let l = cut_mag t s in record { sfits = omega arith }

pub cut_less_fits : (t : Float) → Small t → SFits w64 (cut_of t -ℤ pos 1)
cut_less_fits t s = let l = less_one (cut_of t) (cut_mag t s) in record { sfits = omega arith }

-- a whole number of few digits is a float
pub few_in_float : (z : ℤ) → mag z < 8192 → T (in_float binary64 z)
unfolding in_float
few_in_float (pos n) h = le→leb n (2 ^ 53) (omega arith)
few_in_float (negsuc n) h = lt→ltb n (2 ^ 53) (omega arith)

pub small_low : (t : Float) → Small t → T (le (fin true 1 (pos 63)) t)
unfolding le lt
small_low nan s = absurd s
small_low (inf u) s = absurd s
small_low (fin false m e) s = let d = down_pos e in rw (lt-ltb 0 (1 * 2 ^ 63 * down e + m * up e * 1) (omega arith)) tt
small_low (fin true m e) s = let d = down_pos e in rw (lt-ltb (m * up e * 1) (1 * 2 ^ 63 * down e) (omega arith)) tt

pub small_high : (t : Float) → Small t → T (lt t (fin false 1 (pos 63)))
unfolding lt
small_high nan s = absurd s
small_high (inf u) s = absurd s
small_high (fin false m e) s = let d = down_pos e in lt→ltb (m * up e * 1) (1 * 2 ^ 63 * down e) (omega arith)
small_high (fin true m e) s = let d = down_pos e in lt→ltb 0 (m * up e * 1 + 1 * 2 ^ 63 * down e) (omega arith)
