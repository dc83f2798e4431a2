-- Whole numbers as the machine has them, in words of 64 bits: those of few digits fit, so do their sums, and each is read back as it was. Assumes nothing.
use Rattle.std.proofs.Common.{◌≡◌, ℕ, suc, ◌+◌, ◌-◌, ◌<◌, ◌≤◌, Bool, cond, T, ltb, ℤ, pos, negsuc, ◌+ℤ◌, ap, ◌∙◌, arith, ltb→lt}
use Rattle.std.proofs.Common.{w64, SFits, to_z, of_z}
use lib.Signed.{mag}
use mir.ValLaws.{to_z-of_z}
use Rattle.floats.proofs.Tests.{by}
use Rattle.elementary.specs.Steps.{spans}

mag_sub : (a b : ℕ) → mag (cond (ltb a (suc b)) (negsuc (suc b - suc a)) (pos (a - suc b))) ≤ a + b + 1
mag_sub a b =
    by (λ (z : ℤ). mag z ≤ a + b + 1) (λ (t : Bool). cond t (negsuc (suc b - suc a)) (pos (a - suc b))) (ltb a (suc b)) (λ e. omega arith) (λ e. omega arith)

pub mag_plus : (k j : ℤ) → mag (k +ℤ j) ≤ mag k + mag j + 1
mag_plus (pos a) (pos b) = omega arith
mag_plus (pos a) (negsuc b) = mag_sub a b
mag_plus (negsuc a) (pos b) = omega (arith, mag_sub b a)
mag_plus (negsuc a) (negsuc b) = omega arith

fits : (k : ℤ) → mag k < 8192 → SFits w64 k
fits k h = record { sfits = omega arith }

pub plus_fits : (k j : ℤ) → mag k < 8192 → mag j < 8192 → SFits w64 (k +ℤ j)
plus_fits k j h l = let m = mag_plus k j in record { sfits = omega arith }

-- k is from -low to 1023
pub few : (low : ℕ) (k : ℤ) → T (spans low k) → mag k < 1024 + low
few low (pos n) t = let g = ltb→lt n 1024 t in omega arith
few low (negsuc n) t = let g = ltb→lt n low t in omega arith

-- z is k, and is read back as k; and so is a sum
module _ (z k : ℤ) (e : z ≡ k) (h : mag k < 8192) where
  pub back : to_z w64 (of_z w64 z) ≡ k
  back = ap (λ (z : ℤ). to_z w64 (of_z w64 z)) e ∙ to_z-of_z w64 k (fits k h)

  pub plus_back : (j : ℤ) → mag j < 8192 → to_z w64 (of_z w64 (to_z w64 (of_z w64 z) +ℤ j)) ≡ k +ℤ j
  plus_back j l = ap (λ (z : ℤ). to_z w64 (of_z w64 (z +ℤ j))) back ∙ to_z-of_z w64 (k +ℤ j) (plus_fits k j h l)
