-- A loop that looks for the first value of which p holds: `i + first_where p (drop i l)` stays the same while it holds of none passed. Assumes nothing.
use Prim.Native.Nat.{ℕ, zero, suc, ◌≤◌, ◌<◌}
use mathlib.Core.Path.{◌≡◌}
use mathlib.Core.Bool.{Bool, true, false, cond}
use mathlib.Core.List.{List, [], ◌∷◌}
use native.Mathlib.Nat.{le_of_suc-le-suc}
use native.Mathlib.Omega.{arith}
use lib.ListN.{length, take, get_or}
use lib.Seq.{take-length}
use lib.Ieee.{Float}
use Rattle.floats.proofs.Tests.{by, split, clash}
use Rattle.grid.specs.Search.{first_where, AllPass, Rising}

-- a search stops at the end at the latest
pub first_most : (p : Float → Bool) (ys : List Float) → first_where p ys ≤ length ys
unfolding first_where
first_most p [] = omega arith
first_most p (y ∷ ys) =
    let ih = first_most p ys in
    by (λ (n : ℕ). n ≤ suc (length ys)) (λ (b : Bool). cond b 0 (suc (first_where p ys))) (p y) (λ e. omega arith) (λ e. omega arith)

-- a search over a whole list
pub look_all : (p : Float → Bool) (a : List Float) → first_where p (take (length a) a) ≡ first_where p a
look_all p a = rw take-length

-- ---- a search by halves, where of the values after one that passes the test all pass it
all_at : (p : Float → Bool) (ys : List Float) (i : ℕ) (d : Float) → AllPass p ys → i < length ys → p (get_or ys i d) ≡ true
all_at p [] i d h k = absurd (omega arith)
all_at p (y ∷ ys) zero d h k = h.0
all_at p (y ∷ ys) (suc i) d h k = all_at p ys i d h.1 (le_of_suc-le-suc k)

-- the first is at i or before it, where the value at i passes
pub first_upto : (p : Float → Bool) (ys : List Float) (i : ℕ) (d : Float) → i < length ys → p (get_or ys i d) ≡ true → first_where p ys ≤ i
unfolding first_where
first_upto p [] i d k h = absurd (omega arith)
first_upto p (y ∷ ys) zero d k h = rw h (omega arith)
first_upto p (y ∷ ys) (suc i) d k h =
    let r = first_upto p ys i d (le_of_suc-le-suc k) h in
    split (p y) (λ e. rw e (omega arith)) (λ e. rw e (omega arith))

-- no value before the first passes, and the first does
pub first_before : (p : Float → Bool) (ys : List Float) (i : ℕ) (d : Float) → i < first_where p ys → p (get_or ys i d) ≡ false
first_before p ys i d h =
    split (p (get_or ys i d))
    (λ t. let q = first_upto p ys i d (omega (arith, first_most p ys)) t in absurd (omega arith))
    (λ t. t)

pub first_hit : (p : Float → Bool) (ys : List Float) (d : Float) → first_where p ys < length ys → p (get_or ys (first_where p ys) d) ≡ true
unfolding first_where
first_hit p [] d h = absurd (omega arith)
first_hit p (y ∷ ys) d h = split (p y) (λ t. rw t t) (λ t. rw t (first_hit p ys d (le_of_suc-le-suc (rw t at h))))

-- and after i, where it does not
pub first_past : (p : Float → Bool) (ys : List Float) (i : ℕ) (d : Float) → Rising p ys → i < length ys → p (get_or ys i d) ≡ false
    → i < first_where p ys
unfolding first_where
first_past p [] i d r k h = absurd (omega arith)
first_past p (y ∷ ys) zero d r k h = rw h (omega arith)
first_past p (y ∷ ys) (suc i) d r k h =
    let l = le_of_suc-le-suc k in
    let q = first_past p ys i d r.1 l h in
    split (p y) (λ e. clash (all_at p ys i d (r.0 e) l) h) (λ e. rw e (omega arith))
