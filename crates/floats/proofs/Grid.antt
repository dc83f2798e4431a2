-- Rounding moves what is at most 4096 by at most 2^-30, because the whole multiples of 2^-30 up to there are short. A float is read as p - n units of
-- 2^-1074, one of the two being 0: a chain of sums and multiples is then linear over whole numbers, whatever the signs. Assumes nothing.
use mathlib.Core.Path.{◌≡◌, refl, sym, ap, ◌∙◌, subst}
use Prim.Native.Nat.{ℕ, ◌+◌, ◌-◌, ◌*◌, ◌/◌, ◌^◌, ◌≤◌, ◌<◌, zero-le}
use native.Mathlib.Nat.{le_trans, le_of_eq, lt_of_lt_of_le, mul-pos, mul_comm, mul-sub, zero-mul, mul-le-mul_right, le_of_mul-le-mul_right}
use native.Mathlib.Nat.{mul_right_comm, mul_assoc, div-mul-le_self, lt-div-mul-add, div-lt_iff_lt-mul, eq_of_mul-eq-mul_right, le_of_lt}
use native.Mathlib.Omega.{arith}
use mathlib.Core.Bool.{Bool, true, false, cond, true≢false}
use lib.IntN.{ℤ}
use lib.Dec.{T, ltb, lit≤}
use lib.Pow.{pow_pos, pow_mono, shl_lt}
use borrow.Author.Tests.{ltb-true, ltb-false}
use lib.Ieee.{Float, nan, inf, fin, binary64, up, down, neg, add, sub, mul, sum, round, fits}
use lib.Ieee.Fits.{down_pos, round-fits}
use lib.Ieee.Exact.{HasValue}
use Rattle.floats.specs.Operators.{◌⊕◌, ◌⊖◌, ◌⊗◌}
use Rattle.floats.specs.Values.{negative}
use Rattle.floats.proofs.Tests.{by}
use Rattle.floats.proofs.Short.{Short, AtMost, Own, most_round, own}
use Rattle.floats.proofs.Minimum.{negative_round}
use Rattle.floats.proofs.Bounds.{AtLeast, Clear, least_round}

-- ---- one rounding
-- ±a / b is p - n units
abbrev pub Counts : Bool → ℕ → ℕ → ℕ → ℕ → Type 0
Counts false a b p n = (a * 2 ^ 1074 ≡ p * b) × (n ≡ 0)
Counts true a b p n = (a * 2 ^ 1074 ≡ n * b) × (p ≡ 0)

-- x is finite, and p - n units
abbrev pub Reads : Float → ℕ → ℕ → Type 0
Reads nan p n = ⊥
Reads (inf s) p n = ⊥
Reads (fin s m e) p n = Counts s (m * up e) (down e) p n

pub value_reads : (s : Bool) (x : Float) (w : ℕ) → HasValue x s w (2 ^ 1074) → Reads x (cond s 0 w) (cond s w 0)
value_reads s nan w h = h
value_reads s (inf t) w h = h
value_reads false (fin false m e) w h = (h.1, refl)
value_reads false (fin true m e) w h = absurd (true≢false h.0)
value_reads true (fin false m e) w h = absurd (true≢false (sym h.0))
value_reads true (fin true m e) w h = (h.1, refl)

-- x has the sign s, and w units are a / b up to 2^-30
record Rounded (s : Bool) (a b : ℕ) (x : Float) : Type 0 where
  w : ℕ
  is : HasValue x s w (2 ^ 1074)
  upper : w * b ≤ a * 2 ^ 1074 + 2 ^ 1044 * b
  lower : a * 2 ^ 1074 ≤ w * b + 2 ^ 1044 * b

grid_short : (q : ℕ) → q < 9007199254740992 → Short (q * 2 ^ 1044)
grid_short q h = record {
  digits = q;
  zeros = 1044;
  is = refl;
  few = h;
  small = lt_of_lt_of_le (shl_lt 53 1044 h) (pow_mono {i = 53 + 1044} {j = 2098} (lit≤ tt));
}

near_of : (s : Bool) (a b q : ℕ) (x : Float) → q * b ≤ a * 1073741824 → a * 1073741824 < q * b + b → T (fits binary64 x) → AtMost ((q + 1) * 2 ^ 1044) x
    → AtLeast (q * 2 ^ 1044) x → negative x ≡ s → Rounded s a b x
unfolding negative
near_of s a b q nan h l f u v k = absurd u
near_of s a b q (inf t) h l f u v k = absurd u
near_of s a b q (fin t m e) h l f u v k =
    let o = own t m e f in
    let d = down_pos e in
    let y : o.count ≤ (q + 1) * 2 ^ 1044 = le_of_mul-le-mul_right {k = down e} (le_trans (le_of_eq (sym o.exact)) u) d in
    let z : q * 2 ^ 1044 ≤ o.count = le_of_mul-le-mul_right {k = down e} (le_trans v (le_of_eq o.exact)) d in
    record { w = o.count; is = (k, o.exact); upper = more o.count (2 ^ 1044) y; lower = less o.count (2 ^ 1044) z }
  where
    more : (w g : ℕ) → w ≤ (q + 1) * g → w * b ≤ a * (1073741824 * g) + g * b
    more w g y = omega (arith, mul-le-mul_right b y, mul-le-mul_right g h)

    less : (w g : ℕ) → q * g ≤ w → a * (1073741824 * g) ≤ w * b + g * b
    less w g z = omega (arith, mul-le-mul_right b z, mul-le-mul_right g (le_of_lt l))

near_round : (s : Bool) (a b : ℕ) → 0 < b → a ≤ 4096 * b → Rounded s a b (round binary64 s a b)
near_round s a b B h =
    let q = a * 1073741824 / b in
    let lo : q * b ≤ a * 1073741824 = div-mul-le_self (a * 1073741824) b in
    let hi : a * 1073741824 < q * b + b = lt-div-mul-add B in
    let few : q < 4398046511105 = (div-lt_iff_lt-mul {k = b} {x = a * 1073741824} {y = 4398046511105} B).1 (omega arith) in
    near_of s a b q (round binary64 s a b) lo hi (round-fits binary64 s a b)
    (most_round ((q + 1) * 2 ^ 1044) s a b (grid_short (q + 1) (omega arith)) B (most q (2 ^ 1044) hi))
    (least_round (q * 2 ^ 1044) s a b (grid_short q (omega arith)) B (least q (2 ^ 1044) lo)) (negative_round s a b)
  where
    most : (q g : ℕ) → a * 1073741824 < q * b + b → a * (1073741824 * g) ≤ (q + 1) * g * b
    most q g l = omega (arith, mul-le-mul_right g (le_of_lt l))

    least : (q g : ℕ) → q * b ≤ a * 1073741824 → q * g * b ≤ a * (1073741824 * g)
    least q g l = omega (arith, mul-le-mul_right g l)

-- ---- a sum
-- x is finite, and P - N units up to 2^-30
pub record Within (x : Float) (P N : ℕ) : Type 0 where
  pub p : ℕ
  pub n : ℕ
  pub is : Reads x p n
  pub upper : p + N ≤ P + n + 2 ^ 1044
  pub lower : P + n ≤ p + N + 2 ^ 1044

-- another way to write the same difference
shifted : (x : Float) (P N Q M : ℕ) → P + M ≡ Q + N → Within x P N → Within x Q M
shifted x P N Q M h v = record {
  p = v.p;
  n = v.n;
  is = v.is;
  upper = up_to v.p v.n (2 ^ 1044) v.upper;
  lower = from v.p v.n (2 ^ 1044) v.lower;
}
  where
    up_to : (p n g : ℕ) → p + N ≤ P + n + g → p + M ≤ Q + n + g
    up_to p n g l = omega arith

    from : (p n g : ℕ) → P + n ≤ p + N + g → Q + n ≤ p + M + g
    from p n g l = omega arith

-- u units in place of w, with the sign s
signed : (s : Bool) (w u : ℕ) (x : Float) → Reads x (cond s 0 u) (cond s u 0) → u ≤ w + 2 ^ 1044 → w ≤ u + 2 ^ 1044 → Within x (cond s 0 w) (cond s w 0)
signed false w u x r h l = record { p = u; n = 0; is = r; upper = plain u w (2 ^ 1044) h; lower = plain w u (2 ^ 1044) l }
  where
    plain : (x y g : ℕ) → x ≤ y + g → x + 0 ≤ y + 0 + g
    plain x y g l = omega arith
signed true w u x r h l = record { p = 0; n = u; is = r; upper = turned w u (2 ^ 1044) l; lower = turned u w (2 ^ 1044) h }
  where
    turned : (x y g : ℕ) → x ≤ y + g → 0 + x ≤ 0 + y + g
    turned x y g l = omega arith

within_round : (s : Bool) (a b w : ℕ) → 0 < b → a * 2 ^ 1074 ≡ w * b → w ≤ 4096 * 2 ^ 1074 → Within (round binary64 s a b) (cond s 0 w) (cond s w 0)
within_round s a b w B h l =
    let v = near_round s a b B (small (2 ^ 1074) (pow_pos 1074) h l) in
    signed s w v.w (round binary64 s a b) (value_reads s (round binary64 s a b) v.w v.is) (off (2 ^ 1044) (2 ^ 1074) v.w h v.upper)
    (back (2 ^ 1044) (2 ^ 1074) v.w h v.lower)
  where
    small : (K : ℕ) → 0 < K → a * K ≡ w * b → w ≤ 4096 * K → a ≤ 4096 * b
    small K Z h l = le_of_mul-le-mul_right {k = K} (omega (arith, mul-le-mul_right b l)) Z

    off : (g K u : ℕ) → a * K ≡ w * b → u * b ≤ a * K + g * b → u ≤ w + g
    off g K u h l = le_of_mul-le-mul_right {k = b} (let z : u * b ≤ (w + g) * b = omega arith in z) B

    back : (g K u : ℕ) → a * K ≡ w * b → a * K ≤ u * b + g * b → w ≤ u + g
    back g K u h l = le_of_mul-le-mul_right {k = b} (let z : w * b ≤ (u + g) * b = omega arith in z) B

-- b - a, of p and q units
module _ (a b c p q : ℕ) (C : 0 < c) (A : a * 2 ^ 1074 ≡ p * c) (B : b * 2 ^ 1074 ≡ q * c) (l : a ≤ b) (small : q ≤ 4096 * 2 ^ 1074) where
  units_le : p ≤ q
  units_le = le_of_mul-le-mul_right {k = c} (le_trans (le_of_eq (sym A)) (le_trans (mul-le-mul_right (2 ^ 1074) l) (le_of_eq B))) C

  less_units : (b - a) * 2 ^ 1074 ≡ (q - p) * c
  less_units = mul_comm (b - a) (2 ^ 1074) ∙ mul-sub (2 ^ 1074) b a ∙ go (2 ^ 1074) A B ∙ sym (mul-sub c q p) ∙ mul_comm c (q - p)
    where
      go : (K : ℕ) → a * K ≡ p * c → b * K ≡ q * c → K * b - K * a ≡ c * q - c * p
      go K A B = omega arith

  less_round : (s : Bool) → Within (round binary64 s (b - a) c) (cond s p q) (cond s q p)
  less_round s =
      let h = units_le in
      shifted (round binary64 s (b - a) c) (cond s 0 (q - p)) (cond s (q - p) 0) (cond s p q) (cond s q p) (go s h)
      (within_round s (b - a) c (q - p) C less_units (le_trans (let z : q - p ≤ q = omega arith in z) small))
    where
      go : (s : Bool) → p ≤ q → cond s 0 (q - p) + cond s q p ≡ cond s p q + cond s (q - p) 0
      go false h = omega arith
      go true h = omega arith

-- at most w units either way
abbrev pub Sized : ℕ → ℕ → ℕ → Type 0
Sized w p n = (p ≤ w) × (n ≤ w)

one_small : (p K : ℕ) → p ≤ 2048 * K → p ≤ 4096 * K
one_small p K h = omega arith

two_small : (p q K : ℕ) → p ≤ 2048 * K → q ≤ 2048 * K → p + q ≤ 4096 * K
two_small p q K h l = omega arith

both_units : (a b c p q K : ℕ) → a * K ≡ p * c → b * K ≡ q * c → (a + b) * K ≡ (p + q) * c
both_units a b c p q K A B = omega arith

within_sum : (s : Bool) (a : ℕ) (t : Bool) (b c p n q m : ℕ) → 0 < c → Counts s a c p n → Counts t b c q m → Sized (2048 * 2 ^ 1074) p n
    → Sized (2048 * 2 ^ 1074) q m → Within (sum binary64 s a t b c) (p + q) (n + m)
unfolding sum
within_sum false a false b c p n q m C (A, N) (B, M) h l =
    shifted _ (p + q) 0 (p + q) (n + m) (omega arith)
    (within_round false (a + b) c (p + q) C (both_units a b c p q (2 ^ 1074) A B) (two_small p q (2 ^ 1074) h.0 l.0))
within_sum true a true b c p n q m C (A, N) (B, M) h l =
    shifted _ 0 (n + m) (p + q) (n + m) (omega arith)
    (within_round true (a + b) c (n + m) C (both_units a b c n m (2 ^ 1074) A B) (two_small n m (2 ^ 1074) h.1 l.1))
within_sum false a true b c p n q m C (A, N) (B, M) h l =
    by (λ (x : Float). Within x (p + q) (n + m)) (λ (x : Bool). cond x (round binary64 true (b - a) c) (round binary64 false (a - b) c)) (ltb a b)
    (λ t. shifted _ p m (p + q) (n + m) (omega arith)
    (less_round a b c p m C A B (le_of_lt (ltb-true a b t)) (one_small m (2 ^ 1074) l.1) true))
    (λ t. shifted _ p m (p + q) (n + m) (omega arith)
    (less_round b a c m p C B A (ltb-false a b t) (one_small p (2 ^ 1074) h.0) false))
within_sum true a false b c p n q m C (A, N) (B, M) h l =
    by (λ (x : Float). Within x (p + q) (n + m)) (λ (x : Bool). cond x (round binary64 false (b - a) c) (round binary64 (ltb b a) (a - b) c)) (ltb a b)
    (λ t. shifted _ q n (p + q) (n + m) (omega arith)
    (less_round a b c n q C A B (le_of_lt (ltb-true a b t)) (one_small q (2 ^ 1074) l.0) false))
    (λ t. by (λ (x : Float). Within x (p + q) (n + m)) (λ (x : Bool). round binary64 x (a - b) c) (ltb b a)
    (λ u. shifted _ q n (p + q) (n + m) (omega arith)
    (less_round b a c q n C B A (ltb-false a b t) (one_small n (2 ^ 1074) h.1) true))
    (λ u. shifted _ n q (p + q) (n + m)
    (let e : n ≡ q = eq_of_mul-eq-mul_right c C n q (sym A ∙ ap (λ (z : ℕ). z * 2 ^ 1074) (same a b (ltb-false a b t) (ltb-false b a u)) ∙ B) in
    let z : n + (n + m) ≡ p + q + q = omega arith in z)
    (less_round b a c q n C B A (ltb-false a b t) (one_small n (2 ^ 1074) h.1) false)))
  where
    same : (a b : ℕ) → b ≤ a → a ≤ b → a ≡ b
    same a b h l = omega arith

-- a fraction over more
wide : (a b d p K : ℕ) → a * K ≡ p * b → a * d * K ≡ p * (b * d)
wide a b d p K h = mul_right_comm a d K ∙ ap (λ (z : ℕ). z * d) h ∙ mul_assoc p b d

counts_wide : (s : Bool) (a b d p n : ℕ) → Counts s a b p n → Counts s (a * d) (b * d) p n
counts_wide false a b d p n (h, z) = (wide a b d p (2 ^ 1074) h, z)
counts_wide true a b d p n (h, z) = (wide a b d n (2 ^ 1074) h, z)

pub within_add : (x y : Float) (p n q m : ℕ) → Reads x p n → Reads y q m → Sized (2048 * 2 ^ 1074) p n → Sized (2048 * 2 ^ 1074) q m
    → Within (x ⊕ y) (p + q) (n + m)
unfolding add
within_add nan y p n q m X Y h l = absurd X
within_add (inf s) y p n q m X Y h l = absurd X
within_add (fin s i e) nan p n q m X Y h l = absurd Y
within_add (fin s i e) (inf t) p n q m X Y h l = absurd Y
within_add (fin s i e) (fin t j d) p n q m X Y h l =
    within_sum s (i * up e * down d) t (j * up d * down e) (down e * down d) p n q m (mul-pos (down_pos e) (down_pos d))
    (counts_wide s (i * up e) (down e) (down d) p n X)
    (subst (λ (c : ℕ). Counts t (j * up d * down e) c q m) (mul_comm (down d) (down e)) (counts_wide t (j * up d) (down d) (down e) q m Y)) h l

reads_neg : (x : Float) (p n : ℕ) → Reads x p n → Reads (neg x) n p
unfolding neg
reads_neg nan p n h = h
reads_neg (inf s) p n h = h
reads_neg (fin false m e) p n h = h
reads_neg (fin true m e) p n h = h

pub within_sub : (x y : Float) (p n q m : ℕ) → Reads x p n → Reads y q m → Sized (2048 * 2 ^ 1074) p n → Sized (2048 * 2 ^ 1074) q m
    → Within (x ⊖ y) (p + m) (n + q)
unfolding sub
within_sub x y p n q m X Y h l = within_add x (neg y) p n m q X (reads_neg y q m Y) h (l.1, l.0)

-- ---- a multiple: x is finite, and c / d times p - n units up to 2^-30
pub record Multiple (x : Float) (P N c d : ℕ) : Type 0 where
  pub p : ℕ
  pub n : ℕ
  pub is : Reads x p n
  pub upper_p : p * d ≤ P * c + 2 ^ 1044 * d
  pub lower_p : P * c ≤ p * d + 2 ^ 1044 * d
  pub upper_n : n * d ≤ N * c + 2 ^ 1044 * d
  pub lower_n : N * c ≤ n * d + 2 ^ 1044 * d

-- ±a / b, of p units, times c / d
module _ (s : Bool) (a b p c d : ℕ) (B : 0 < b) (D : 0 < d) (h : a * 2 ^ 1074 ≡ p * b) (l : p * c ≤ 4096 * 2 ^ 1074 * d) where
  product_near : Rounded s (a * c) (b * d) (round binary64 s (a * c) (b * d))
  product_near = near_round s (a * c) (b * d) (mul-pos B D) (go (2 ^ 1074) (pow_pos 1074) h l)
    where
      go : (K : ℕ) → 0 < K → a * K ≡ p * b → p * c ≤ 4096 * K * d → a * c ≤ 4096 * (b * d)
      go K Z h l = le_of_mul-le-mul_right {k = K} (omega (arith, ap (λ (z : ℕ). z * c) h, mul-le-mul_right b l)) Z

  product_units : Reads (round binary64 s (a * c) (b * d)) (cond s 0 product_near.w) (cond s product_near.w 0)
  product_units = value_reads s (round binary64 s (a * c) (b * d)) product_near.w product_near.is

  product_upper : product_near.w * d ≤ p * c + 2 ^ 1044 * d
  product_upper = go product_near.w (2 ^ 1044) (2 ^ 1074) h product_near.upper
    where
      go : (w g K : ℕ) → a * K ≡ p * b → w * (b * d) ≤ a * c * K + g * (b * d) → w * d ≤ p * c + g * d
      go w g K h l = le_of_mul-le-mul_right {k = b} (omega (arith, ap (λ (z : ℕ). z * c) h)) B

  product_lower : p * c ≤ product_near.w * d + 2 ^ 1044 * d
  product_lower = go product_near.w (2 ^ 1044) (2 ^ 1074) h product_near.lower
    where
      go : (w g K : ℕ) → a * K ≡ p * b → a * c * K ≤ w * (b * d) + g * (b * d) → p * c ≤ w * d + g * d
      go w g K h l = le_of_mul-le-mul_right {k = b} (omega (arith, ap (λ (z : ℕ). z * c) h)) B

none : (z c y : ℕ) → z ≡ 0 → z * c ≤ y
none z c y h = le_trans (le_of_eq (ap (λ (x : ℕ). x * c) h ∙ zero-mul c)) zero-le

pub near_mul : (x : Float) (i : ℕ) (r : ℤ) (p n : ℕ) → Reads x p n → (p + n) * (i * up r) ≤ 4096 * 2 ^ 1074 * down r
    → Multiple (x ⊗ fin false i r) p n (i * up r) (down r)
unfolding mul
near_mul nan i r p n h l = absurd h
near_mul (inf s) i r p n h l = absurd h
near_mul (fin false m e) i r p n (h, z) l =
    let c = i * up r in
    let k : p * c ≤ 4096 * 2 ^ 1074 * down r = le_trans (mul-le-mul_right c (let g : p ≤ p + n = omega arith in g)) l in
    record {
      p = (product_near false (m * up e) (down e) p c (down r) (down_pos e) (down_pos r) h k).w;
      n = 0;
      is = product_units false (m * up e) (down e) p c (down r) (down_pos e) (down_pos r) h k;
      upper_p = product_upper false (m * up e) (down e) p c (down r) (down_pos e) (down_pos r) h k;
      lower_p = product_lower false (m * up e) (down e) p c (down r) (down_pos e) (down_pos r) h k;
      upper_n = none 0 (down r) (n * c + 2 ^ 1044 * down r) refl;
      lower_n = none n c (0 * down r + 2 ^ 1044 * down r) z;
    }
near_mul (fin true m e) i r p n (h, z) l =
    let c = i * up r in
    let k : n * c ≤ 4096 * 2 ^ 1074 * down r = le_trans (mul-le-mul_right c (let g : n ≤ p + n = omega arith in g)) l in
    record {
      p = 0;
      n = (product_near true (m * up e) (down e) n c (down r) (down_pos e) (down_pos r) h k).w;
      is = product_units true (m * up e) (down e) n c (down r) (down_pos e) (down_pos r) h k;
      upper_p = none 0 (down r) (p * c + 2 ^ 1044 * down r) refl;
      lower_p = none p c (0 * down r + 2 ^ 1044 * down r) z;
      upper_n = product_upper true (m * up e) (down e) n c (down r) (down_pos e) (down_pos r) h k;
      lower_n = product_lower true (m * up e) (down e) n c (down r) (down_pos e) (down_pos r) h k;
    }

-- ---- what a reading says
pub record Read (w : ℕ) (x : Float) : Type 0 where
  pub p : ℕ
  pub n : ℕ
  pub is : Reads x p n
  pub most : Sized w p n

pub read : (w : ℕ) (x : Float) → T (fits binary64 x) → AtMost w x → Read w x
read w nan f h = absurd h
read w (inf s) f h = absurd h
read w (fin s m e) f h = go s
  where
    o : Own m e
    o = own s m e f

    l : o.count ≤ w
    l = le_of_mul-le-mul_right {k = down e} (le_trans (le_of_eq (sym o.exact)) h) (down_pos e)

    go : (s : Bool) → Read w (fin s m e)
    go false = record { p = o.count; n = 0; is = (o.exact, refl); most = (l, zero-le) }
    go true = record { p = 0; n = o.count; is = (o.exact, refl); most = (zero-le, l) }

-- one of the two is 0
pub one_sided : (w : ℕ) (x : Float) (p n : ℕ) → Reads x p n → p ≤ n + w → n ≤ p + w → Sized w p n
one_sided w nan p n h a b = absurd h
one_sided w (inf s) p n h a b = absurd h
one_sided w (fin false m e) p n (h, z) a b = (omega arith, omega arith)
one_sided w (fin true m e) p n (h, z) a b = (omega arith, omega arith)

pub most_of : (w : ℕ) (x : Float) (p n : ℕ) → Reads x p n → Sized w p n → AtMost w x
most_of w nan p n h a = h
most_of w (inf s) p n h a = h
most_of w (fin false m e) p n (h, z) a = le_trans (le_of_eq h) (mul-le-mul_right (down e) a.0)
most_of w (fin true m e) p n (h, z) a = le_trans (le_of_eq h) (mul-le-mul_right (down e) a.1)

-- at least w, and above 0
pub clear_of_read : (x : Float) (p n : ℕ) → Reads x p n → n < p → Clear x
clear_of_read nan p n h l = h
clear_of_read (inf s) p n h l = h
clear_of_read (fin false m e) p n h l = refl
clear_of_read (fin true m e) p n (h, z) l = absurd (omega arith)

pub least_of : (w : ℕ) (x : Float) (p n : ℕ) → Reads x p n → n < p → w ≤ p → AtLeast w x
least_of w nan p n h l a = h
least_of w (inf s) p n h l a = tt
least_of w (fin false m e) p n (h, z) l a = le_trans (mul-le-mul_right (down e) a) (le_of_eq (sym h))
least_of w (fin true m e) p n (h, z) l a = absurd (omega arith)

pub reads_least : (w : ℕ) (x : Float) (p n : ℕ) → Reads x p n → Clear x → AtLeast w x → (w ≤ p) × (n ≡ 0)
reads_least w nan p n h c a = absurd h
reads_least w (inf s) p n h c a = absurd h
reads_least w (fin false m e) p n (h, z) c a = (le_of_mul-le-mul_right {k = down e} (le_trans a (le_of_eq h)) (down_pos e), z)
reads_least w (fin true m e) p n (h, z) c a = absurd (true≢false c)

pub least_less : (w u : ℕ) (x : Float) → u ≤ w → AtLeast w x → AtLeast u x
least_less w u nan h a = a
least_less w u (inf s) h a = tt
least_less w u (fin s m e) h a = le_trans (mul-le-mul_right (down e) h) a
