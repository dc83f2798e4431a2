-- The loop of `digits_of`, which writes the digits from the last to the first. Assumes nothing.
use mathlib.Core.Path.{◌≡◌, ◌∙◌}
use mathlib.Core.List.{List, ◌∷◌}
use Prim.Native.Nat.{ℕ, suc, ◌-◌, ◌/◌, ◌%◌, ◌^◌, ◌<◌, ◌≤◌}
use native.Mathlib.Nat.{pow-suc, div-div-eq-div-mul}
use native.Mathlib.Omega.{arith}
use lib.ListN.{length, take, drop, set, length-set, length-take}
use lib.Seq.{set_split, drop_at}
use Rattle.hexlines.specs.Hex.{digit, digits}

-- Of the 16 digits of a number b: those from i on are there, those before are to come.
pub record Writing (b : ℕ) (text : List ℕ) (v i : ℕ) : Type 0 where
  pub high : i ≤ 16
  pub size : length text ≡ 16
  pub back : drop i text ≡ digits (16 - i) b
  pub left : v ≡ b / 16 ^ (16 - i)

drop_set : (l : List ℕ) (i d : ℕ) → i < length l → drop i (set l i d) ≡ d ∷ drop (suc i) l
drop_set l i d h =
    rw (set_split l i d h) (drop_at (take i l) (d ∷ drop (suc i) l) i (simp length-take (omega arith)))

pub one_more : {b v i : ℕ} {text : List ℕ} → 0 < i → Writing b text v i → Writing b (set text (i - 1) (digit (v % 16))) (v / 16) (i - 1)
unfolding digits
one_more {b} {v} {i} {text} h w =
    let k : 16 - (i - 1) ≡ suc (16 - i) = omega (arith, w.high) in
    let j : suc (i - 1) ≡ i = omega arith in
    record {
      high = omega (arith, w.high);
      size = length-set text (i - 1) (digit (v % 16)) ∙ w.size;
      back = drop_set text (i - 1) (digit (v % 16)) (omega (arith, w.high, w.size)) ∙ rw (j, w.back, w.left, k);
      left = rw (k, w.left, div-div-eq-div-mul, ← pow-suc);
    }

pub all_written : {b v i : ℕ} {text : List ℕ} → i ≤ 0 → Writing b text v i → text ≡ digits 16 b
all_written {b} {v} {i} {text} h w =
    let e : i ≡ 0 = omega arith in
    rw e at w.back
