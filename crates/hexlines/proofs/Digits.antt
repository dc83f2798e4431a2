-- Laws of digits and of the numbers that they write, for the functions' proofs. Assumes nothing.
use mathlib.Core.Path.{◌≡◌, refl, sym, ap, ◌∙◌}
use mathlib.Core.Bool.{Bool, true, cond}
use mathlib.Core.List.{List, [], ◌∷◌, ◌++◌}
use Prim.Native.Nat.{ℕ, suc, ◌+◌, ◌-◌, ◌*◌, ◌^◌, ◌<◌, ◌≤◌}
use Prim.Native.Char.{Char, code}
use native.Mathlib.Numerals.{add-one}
use native.Mathlib.Nat.{pow-succ', pow-le-pow_right, lt_of_lt_of_le, mul-one, add-zero}
use native.Mathlib.Omega.{arith}
use lib.Arith.{digits_lt}
use lib.Dec.{leb, lit<}
use borrow.Author.Tests.{leb-true}
use lib.ListN.{length, get_or, take, length-take}
use lib.Seq.{take-suc}
use mir.Val.{Fits}
use mir.Syntax.{w64}
use Rattle.floats.proofs.Tests.{by, and_left, and_right}
use Rattle.hexlines.specs.Hex.{between, digit_value, value_after, value}

pub above : (lo hi : Char) (c : ℕ) → between lo hi c ≡ true → code lo ≤ c
unfolding between
above lo hi c e = leb-true (code lo) c (and_left (leb (code lo) c) (leb c (code hi)) e)

pub below : (lo hi : Char) (c : ℕ) → between lo hi c ≡ true → c ≤ code hi
unfolding between
below lo hi c e = leb-true c (code hi) (and_right (leb (code lo) c) (leb c (code hi)) e)

pub digit_small : (c : ℕ) → digit_value c < 16
unfolding digit_value
digit_small c =
    by (λ (n : ℕ). n < 16) (λ (t : Bool). cond t (c - 48) (cond (between "A" "F" c) (10 + (c - 65)) 0)) (between "0" "9" c)
    (λ t. omega (arith, below "0" "9" c t))
    (λ s. by (λ (n : ℕ). n < 16) (λ (t : Bool). cond t (10 + (c - 65)) 0) (between "A" "F" c) (λ t. omega (arith, below "A" "F" c t)) (λ t. lit< tt))

-- ---- numbers

regroup : (u d p w : ℕ) → (16 * u + d) * p + w ≡ u * (16 * p) + ((16 * 0 + d) * p + w)
regroup u d p w = omega arith

pub value_parts : (u : ℕ) (cs : List ℕ) → value_after u cs ≡ u * 16 ^ length cs + value cs
unfolding value_after
value_parts u [] = rw (mul-one, add-zero)
value_parts u (c ∷ cs) =
    value_parts (16 * u + digit_value c) cs
    ∙ regroup u (digit_value c) (16 ^ length cs) (value cs)
    ∙ ap (λ (z : ℕ). u * z + ((16 * 0 + digit_value c) * 16 ^ length cs + value cs)) (sym (pow-succ' 16 (length cs)))
    ∙ ap (λ (z : ℕ). u * 16 ^ suc (length cs) + z) (sym (value_parts (16 * 0 + digit_value c) cs))

pub value_below : (cs : List ℕ) → value cs < 16 ^ length cs
unfolding value_after
value_below [] = lit< tt
value_below (c ∷ cs) =
    let d : 16 * 0 + digit_value c < 16 = omega (arith, digit_small c) in
    rw (value_parts (16 * 0 + digit_value c) cs, pow-succ') (digits_lt d (value_below cs))

-- ---- the number of digits, one by one

value_append : (u : ℕ) (cs : List ℕ) (c : ℕ) → value_after u (cs ++ c ∷ []) ≡ 16 * value_after u cs + digit_value c
unfolding value_after
value_append u [] c = refl
value_append u (x ∷ cs) c = value_append (16 * u + digit_value x) cs c

pub value_more : (s : List ℕ) (i : ℕ) → i < length s → value (take (i + 1) s) ≡ 16 * value (take i s) + digit_value (get_or s i 0)
value_more s i h = rw (add-one, take-suc s i 0 h) (value_append 0 (take i s) (get_or s i 0))

-- Of at most 16 digits it fits 64 bits.
pub value_fits : (s : List ℕ) (i : ℕ) → i < length s → length s ≤ 16 → Fits w64 (16 * value (take i s) + digit_value (get_or s i 0))
value_fits s i h k =
    let few : length (take (i + 1) s) ≤ 16 = rw length-take (omega arith) in
    rw (← value_more s i h) (record { fits = lt_of_lt_of_le (value_below (take (i + 1) s)) (pow-le-pow_right (lit< tt) few) })
