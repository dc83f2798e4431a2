-- Whether two floats are the same, as a test that computes: a closed equation of floats is then one test, and a wrong one fails at once.
-- Assumes nothing.
use mathlib.Core.Path.{◌≡◌, refl, ap, ◌∙◌}
use mathlib.Core.Bool.{Bool, true, false, ◌&&◌, beq}
use Prim.Native.Nat.{ℕ}
use lib.Dec.{T, eqb, eqb→eq}
use lib.IntN.{ℤ, pos, negsuc}
use lib.Ieee.{Float, nan, inf, fin}
use lib.Ieee.Fits.{and_l, and_r}

same_whole : ℤ → ℤ → Bool
same_whole (pos a) (pos b) = eqb a b
same_whole (pos a) (negsuc b) = false
same_whole (negsuc a) (pos b) = false
same_whole (negsuc a) (negsuc b) = eqb a b

whole_is : (e d : ℤ) → T (same_whole e d) → e ≡ d
unfolding same_whole
whole_is (pos a) (pos b) t = ap pos (eqb→eq a b t)
whole_is (pos a) (negsuc b) t = absurd t
whole_is (negsuc a) (pos b) t = absurd t
whole_is (negsuc a) (negsuc b) t = ap negsuc (eqb→eq a b t)

sign_is : (s t : Bool) → T (beq s t) → s ≡ t
sign_is true true h = refl
sign_is true false h = absurd h
sign_is false true h = absurd h
sign_is false false h = refl

unfoldable pub same : Float → Float → Bool
unfolding same_whole
same nan nan = true
same nan (inf t) = false
same nan (fin t n d) = false
same (inf s) nan = false
same (inf s) (inf t) = beq s t
same (inf s) (fin t n d) = false
same (fin s m e) nan = false
same (fin s m e) (inf t) = false
same (fin s m e) (fin t n d) = beq s t && eqb m n && same_whole e d

pub same_is : (x y : Float) → T (same x y) → x ≡ y
unfolding same
same_is nan nan h = refl
same_is nan (inf t) h = absurd h
same_is nan (fin t n d) h = absurd h
same_is (inf s) nan h = absurd h
same_is (inf s) (inf t) h = ap inf (sign_is s t h)
same_is (inf s) (fin t n d) h = absurd h
same_is (fin s m e) nan h = absurd h
same_is (fin s m e) (inf t) h = absurd h
same_is (fin s m e) (fin t n d) h =
    let A = beq s t in
    let B = eqb m n in
    let C = same_whole e d in
    ap (λ (x : Bool). fin x m e) (sign_is s t (and_l A B (and_l (A && B) C h)))
    ∙ ap (λ (x : ℕ). fin t x e) (eqb→eq m n (and_r A B (and_l (A && B) C h)))
    ∙ ap (fin t n) (whole_is e d (and_r (A && B) C h))
