-- `root::sqrt`: `exceptional` leaves a float above 0. Its digits, with an even exponent, stand under the root; the root of these, rounded, is the
-- definition's (Squares), and that this is the nearest is Nearest's law. Assumes nothing.
use Rattle.std.specs.Prelude.{if◌then◌else◌}
use Rattle.std.proofs.Common.{◌≡◌, sym, ap, ◌∙◌, subst, Bool, true, not, T, eqb, ℕ, ◌+◌, ◌*◌, ◌/◌, ◌%◌, ◌^◌, ◌≤◌, ◌<◌, arith}
use borrow.Author.Tests.{eq-eqb, eqb-true}
use lib.Ieee.{Float, binary64, fits, of_bits, nan_bits, size}
use lib.Ieee.Positive.{positive}
use Rattle.floats.proofs.Tests.{by, clash, holds}
use Rattle.floats.specs.Wholes.{units_of}
use Rattle.floats.specs.Digits.{Digits, parts_of}
use Rattle.floats.specs.declared.Parts.{Parts}
use Rattle.floats.proofs.Digits.{digits_are}
use Rattle.root.specs.Root.{SquareRoot, NearestRoot, sqrt, root_of_units, half_root, whole_root}
use Rattle.root.specs.Steps.{under}
use Rattle.root.specs.declared.Rooted.{Rooted}
use Rattle.root.proofs.Squares.{IsRoot, whole_root_is, root_lt, q_lt, half_bits, half_no_nan, under_even, under_odd}
use Rattle.root.proofs.Nearest.{at_positive, nearest_root}
use Rattle.root.proofs.sqrt.Goals as goal

-- ---- the exact root: what stands under it
-- t has 53 or 54 digits, and the definition's number under the root is t and 54 zeros
abbrev Under : Float → ℕ → ℕ → Type 0
Under v z t = (2 ^ 52 ≤ t) × (t + 1 < 2 ^ 54) × (units_of v * 2 ^ 1076 / 2 ^ (2 * ((z + 969) / 2)) ≡ t * 18014398509481984)

even_exponent : (v : Float) (d z : ℕ) → Digits v d z → Under v z (if eqb (z % 2) 0 then 2 * d else d)
even_exponent v d z D =
    by (Under v z) (λ (b : Bool). if b then 2 * d else d) (eqb (z % 2) 0)
    (λ e. (omega (arith, D.low), omega (arith, D.high), under_even (units_of v) d z D.value (eqb-true (z % 2) 0 e)))
    (λ e. (D.low, omega (arith, D.high), under_odd (units_of v) d z D.value (λ o. clash (eq-eqb (z % 2) 0 o) e)))

at_digits : (v : Float) (t z : ℕ) → T (positive v) → z ≡ size (units_of v) → Under v z t → half_root (t * 18014398509481984) ((z + 969) / 2) ≡ sqrt v
unfolding root_of_units
at_digits v t z p e u =
    ap (λ (x : ℕ). half_root x ((z + 969) / 2)) (sym u.2)
    ∙ ap (λ (x : ℕ). half_root (units_of v * 2 ^ 1076 / 2 ^ (2 * ((x + 969) / 2))) ((x + 969) / 2)) e
    ∙ at_positive v p

-- ---- the rounding: m is what the definition makes of t and 54 zeros
rounded_under : (t q rem m : ℕ) → q * q + rem ≡ t * 2 ^ 52 → m ≡ (whole_root 54 (4 * (q * q + rem)) + 1) / 2
    → m ≡ (whole_root 54 (t * 18014398509481984) + 1) / 2
rounded_under t q rem m e f =
    f ∙ ap (λ (x : ℕ). (whole_root 54 x + 1) / 2) (let g : 4 * (q * q + rem) ≡ t * 18014398509481984 = omega arith in g)

module _ (t m : ℕ) (lo : 4503599627370496 ≤ t) (hi : t + 1 < 18014398509481984) (e : m ≡ (whole_root 54 (t * 18014398509481984) + 1) / 2) where
  abbrev w : ℕ
  w = whole_root 54 (t * 18014398509481984)

  whole : IsRoot (t * 18014398509481984) w
  whole = whole_root_is 54 (t * 18014398509481984) (let g : t * 18014398509481984 < 2 ^ 108 = omega arith in g)

  m_lt : m < 9007199254740992
  unfolding IsRoot
  m_lt = let l = q_lt t w lo hi whole.0 whole.1 in omega arith

  module _ (k : ℕ) (K : k < 2046) where
    bits : of_bits binary64 (m + k * 4503599627370496) ≡ half_root (t * 18014398509481984) k
    unfolding IsRoot
    bits = ap (λ (x : ℕ). of_bits binary64 (x + k * 4503599627370496)) e ∙ half_bits t w lo hi whole.0 whole.1 k K

    no_nan : T (not (nan_bits binary64 (m + k * 4503599627370496)))
    unfolding IsRoot
    no_nan = subst (λ (x : ℕ). T (not (nan_bits binary64 (x + k * 4503599627370496)))) (sym e) (half_no_nan t w lo hi whole.0 whole.1 k K)

-- ---- a float above 0
module _ (v : Float) (f : fits binary64 v ≡ true) where
  -- both parts of the contract, from the first
  both : (r : Float) → r ≡ sqrt v → SquareRoot v r
  both r e = record { equals = e; nearest = λ (p : T (positive v)). subst (λ (x : Float). NearestRoot v x) (sym e) (nearest_root v (holds _ f) p) }

  module _ (pos : T (positive v)) (p : Parts) (e : p ≡ parts_of v) where
    digits : Digits v p.digits p.size
    digits = digits_are v p f pos e

    module _ (t : ℕ) (g : t ≡ (if eqb (p.size % 2) 0 then 2 * p.digits else p.digits)) where
      under_root : Under v p.size t
      under_root = subst (Under v p.size) (sym g) (even_exponent v p.digits p.size digits)

      module _ (r : Rooted) (h : under r ≡ t * 2 ^ 52) where
        short : r.q < 2 ^ 53
        short = let u = under_root.1 in root_lt r.q 9007199254740992 (omega arith)

        module _ (m : ℕ) (j : m ≡ (whole_root 54 (4 * under r) + 1) / 2) where
          m_is : m ≡ (whole_root 54 (t * 18014398509481984) + 1) / 2
          m_is = rounded_under t r.q r.rem m h j

          m_small : m < 2 ^ 53
          m_small = m_lt t m under_root.0 under_root.1 m_is

          bits_no_nan : T (not (nan_bits binary64 (m + (p.size + 969) / 2 * 4503599627370496)))
          bits_no_nan = no_nan t m under_root.0 under_root.1 m_is _ (let s = digits.small in omega arith)

          root_is : of_bits binary64 (m + (p.size + 969) / 2 * 4503599627370496) ≡ sqrt v
          root_is =
              bits t m under_root.0 under_root.1 m_is ((p.size + 969) / 2) (let s = digits.small in omega arith)
              ∙ at_digits v t p.size pos digits.places under_root

pub returns-in-Some : goal.returns-in-Some
returns-in-Some c =
    both c.args.v c.well_formed.0.1 _ c.in-Some.ensures

pub radicand-t-requires : goal.radicand-t-requires
radicand-t-requires c =
    (digits c.args.v c.well_formed.0.1 c.in_default.ensures _ c.taken_apart-p.ensures).high

pub overflow_add-k : goal.overflow_add-k
overflow_add-k c =
    let d = digits c.args.v c.well_formed.0.1 c.in_default.ensures _ c.taken_apart-p.ensures in
    omega (arith, d.small)

pub exact_root-root-requires : goal.exact_root-root-requires
exact_root-root-requires c =
    let u = under_root c.args.v c.well_formed.0.1 c.in_default.ensures _ c.taken_apart-p.ensures _ c.radicand-t.ensures in
    omega (arith, u.1)

pub rounded-m-requires : goal.rounded-m-requires
rounded-m-requires c =
    short c.args.v c.well_formed.0.1 c.in_default.ensures _ c.taken_apart-p.ensures _ c.radicand-t.ensures c.exact_root-root.result c.exact_root-root.ensures

pub overflow_mul-result : goal.overflow_mul-result
overflow_mul-result c =
    let d = digits c.args.v c.well_formed.0.1 c.in_default.ensures _ c.taken_apart-p.ensures in
    omega (arith, d.small)

pub overflow_add-result : goal.overflow_add-result
overflow_add-result c =
    let d = digits c.args.v c.well_formed.0.1 c.in_default.ensures _ c.taken_apart-p.ensures in
    let m = m_small c.args.v c.well_formed.0.1 c.in_default.ensures _ c.taken_apart-p.ensures
    _ c.radicand-t.ensures c.exact_root-root.result c.exact_root-root.ensures _ c.rounded-m.ensures in
    omega (arith, d.small, m)

pub float_from_bits-result : goal.float_from_bits-result
float_from_bits-result c =
    bits_no_nan c.args.v c.well_formed.0.1 c.in_default.ensures _ c.taken_apart-p.ensures
    _ c.radicand-t.ensures c.exact_root-root.result c.exact_root-root.ensures _ c.rounded-m.ensures

pub returns : goal.returns
returns c =
    both c.args.v c.well_formed.0.1 _
    (root_is c.args.v c.well_formed.0.1 c.in_default.ensures _ c.taken_apart-p.ensures
    _ c.radicand-t.ensures c.exact_root-root.result c.exact_root-root.ensures _ c.rounded-m.ensures)
