-- What is held of a line decides its frame. Assumes nothing.
use Rattle.std.specs.Prelude.{None}
use mathlib.Core.Path.{◌≡◌, refl, sym, ap, ◌∙◌}
use mathlib.Core.Bool.{Bool, cond}
use mathlib.Core.List.{List, [], ◌∷◌, ◌++◌}
use Prim.Native.Nat.{ℕ, zero, suc, ◌+◌, ◌<◌, ◌≤◌}
use native.Mathlib.Numerals.{add-one}
use native.Mathlib.Omega.{arith}
use lib.Dec.{ltb, leb}
use borrow.Author.Tests.{ne_eqb, leb-true, leb-false, ltb-true, ltb-false}
use lib.ListN.{length, take, set, length-append, length-take}
use lib.Seq.{take-suc-set, take_all, take_at}
use Rattle.floats.proofs.Tests.{by}
use Rattle.hexlines.specs.Frames.{is_frame, frame_of}
use Rattle.hexlines.specs.Lines.{cap, held, pushed}
use Rattle.hexlines.specs.declared.Line.{Line}

wrong_length : (l : List ℕ) → (length l ≡ 34 → ⊥) → (length l ≡ 50 → ⊥) → frame_of l ≡ None
unfolding frame_of is_frame
wrong_length l h k = simp (ne_eqb (length l) 34 h, ne_eqb (length l) 50 k)

too_long : (l : List ℕ) → 50 < length l → frame_of l ≡ None
too_long l h = wrong_length l (λ e. omega arith) (λ e. omega arith)

pub over_full : (l : List ℕ) (n : ℕ) → length l ≡ 51 → 50 < n → frame_of (take n l) ≡ None
over_full l n e h = rw (take_all n l (omega arith)) (too_long l (omega arith))

-- The frame of a line is that of its first 51 bytes.
pub frame_of_part : (l : List ℕ) → frame_of (take cap l) ≡ frame_of l
frame_of_part l =
    by (λ (b : Bool). frame_of (take cap l) ≡ frame_of l) (λ (b : Bool). b) (leb (length l) cap)
    (λ t. ap frame_of (take_all cap l (leb-true (length l) cap t)))
    (λ t. too_long (take cap l) (simp length-take (omega (arith, leb-false (length l) cap t))) ∙ sym (too_long l (omega (arith, leb-false (length l) cap t))))

-- What is held of a longer line is held of its held part and the rest.
pub take_of_part : (n : ℕ) (l m : List ℕ) → take n (take n l ++ m) ≡ take n (l ++ m)
take_of_part zero l m = refl
take_of_part (suc n) [] m = refl
take_of_part (suc n) (x ∷ l) m = ap (λ (k : List ℕ). x ∷ k) (take_of_part n l m)

-- A byte more: what is held is the line with it, cut to 51 bytes. Every line that the code can hold has 51 bytes of room.
pub held_pushed : (l : Line) (b : ℕ) → length l.bytes ≡ cap → held (pushed l b) ≡ take cap (held l ++ b ∷ [])
unfolding pushed
held_pushed l b e =
    by (λ (z : Line). held z ≡ take cap (held l ++ b ∷ []))
    (λ (t : Bool). cond t (record { bytes = set l.bytes l.seen b; seen = l.seen + 1 }) l)
    (ltb l.seen cap)
    (λ t.
    let k : l.seen < length l.bytes = omega (arith, ltb-true l.seen cap t) in
    let m : length (held l ++ b ∷ []) ≤ 51 = simp (length-append, length-take) (omega arith) in
    rw add-one (take-suc-set l.bytes l.seen b k ∙ sym (take_all cap (held l ++ b ∷ []) m)))
    (λ t. rw (take_all l.seen l.bytes (omega (arith, ltb-false l.seen cap t))) (sym (take_at l.bytes (b ∷ []) cap e)))
