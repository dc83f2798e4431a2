-- A table's rule at each entry, from one test that is computed over the whole table; and a constant array's entries are those of a table where the
-- two lists are the same, which is computed once. Assumes nothing.
use mathlib.Core.Path.{◌≡◌, refl, ap, ◌∙◌, subst, sym}
use mathlib.Core.Bool.{Bool, true, ◌&&◌}
use mathlib.Core.List.{List, [], ◌∷◌}
use Prim.Native.Nat.{ℕ, zero, suc, ◌+◌, ◌-◌, ◌≤◌, ◌<◌}
use native.Mathlib.Omega.{arith}
use native.Mathlib.Nat.{le_refl, add-zero, zero-add, add-suc, suc-add, le_of_suc-le-suc, not-suc-le-zero}
use lib.Dec.{T}
use lib.ListN.{get_or, length}
use lib.Ieee.{Float, nan}
use lib.Ieee.Fits.{and_l, and_r}
use Rattle.floats.specs.Operators.{◌⊕◌, ◌⊗◌}
use Rattle.elementary.specs.Tables.{horner, polynomial, entry_of, NearestReciprocal}

-- the test f passes at each of n places, counted from i
unfoldable pub every : (ℕ → Bool) → ℕ → ℕ → Bool
every f i zero = true
every f i (suc n) = f i && every f (suc i) n

from : (f : ℕ → Bool) (n i : ℕ) → T (every f i n) → (k : ℕ) → k < n → T (f (i + k))
unfolding every
from f zero i t k h = absurd (not-suc-le-zero h)
from f (suc n) i t zero h = subst (λ (m : ℕ). T (f m)) (sym (add-zero i)) (and_l (f i) (every f (suc i) n) t)
from f (suc n) i t (suc k) h =
    subst (λ (m : ℕ). T (f m)) (suc-add i k ∙ sym (add-suc i k))
    (from f n (suc i) (and_r (f i) (every f (suc i) n) t) k (le_of_suc-le-suc h))

pub at : (f : ℕ → Bool) (n : ℕ) → T (every f 0 n) → (k : ℕ) → k < n → T (f k)
at f n t k h = subst (λ (m : ℕ). T (f m)) (zero-add k) (from f n 0 t k h)

-- n entries of a table, counted from i
unfoldable pub entries : (ℕ → Float) → ℕ → ℕ → List Float
entries f i zero = []
entries f i (suc n) = f i ∷ entries f (suc i) n

entry_from : (f : ℕ → Float) (n i k : ℕ) → k < n → get_or (entries f i n) k nan ≡ f (i + k)
unfolding entries
entry_from f zero i k h = absurd (not-suc-le-zero h)
entry_from f (suc n) i zero h = ap f (sym (add-zero i))
entry_from f (suc n) i (suc k) h = entry_from f n (suc i) k (le_of_suc-le-suc h) ∙ ap f (suc-add i k ∙ sym (add-suc i k))

length_is : (f : ℕ → Float) (n i : ℕ) → length (entries f i n) ≡ n
unfolding entries
length_is f zero i = refl
length_is f (suc n) i = ap suc (length_is f n (suc i))

-- the array of the code is the table, and so has the table's rule
entry : (f : ℕ → Float) (n : ℕ) (array : List Float) → array ≡ entries f 0 n → (k : ℕ) → k < n → entry_of array k ≡ f k
entry f n array e k h = ap (λ (xs : List Float). get_or xs k nan) e ∙ entry_from f n 0 k h ∙ ap f (zero-add k)

pub nearest_in : (divisor : ℕ → ℕ) (f : ℕ → Float) (last : ℕ) (array : List Float) → array ≡ entries f 0 (suc last)
    → ((i : ℕ) → i ≤ last → NearestReciprocal (divisor i) (f i)) → (i : ℕ) → i < length array → NearestReciprocal (divisor i) (entry_of array i)
nearest_in divisor f last array e r i h =
    let l : length array ≡ suc last = ap length e ∙ length_is f (suc last) 0 in
    subst (NearestReciprocal (divisor i)) (sym (entry f (suc last) array e i (omega arith))) (r i (omega arith))

-- tables that agree have the same sum
same_horner : (f g : ℕ → Float) (degree : ℕ) (x : Float) (n : ℕ) → n ≤ degree → ((k : ℕ) → k < suc degree → f k ≡ g k)
    → horner f degree x n ≡ horner g degree x n
unfolding horner
same_horner f g degree x zero h e = e degree (omega arith)
same_horner f g degree x (suc n) h e =
    ap (λ (p : Float). p ⊗ x ⊕ f (degree - 1 - n)) (same_horner f g degree x n (omega arith) e)
    ∙ ap (λ (y : Float). horner g degree x n ⊗ x ⊕ y) (e (degree - 1 - n) (omega arith))

pub polynomial_of : (f : ℕ → Float) (degree : ℕ) (array : List Float) → length array ≡ suc degree
    → ((k : ℕ) → k < length array → entry_of array k ≡ f k) → (x : Float) → polynomial (entry_of array) (length array - 1) x ≡ polynomial f degree x
polynomial_of f degree array l e x =
    let d : length array - 1 ≡ degree = omega arith in
    ap (λ (n : ℕ). polynomial (entry_of array) n x) d
    ∙ same_horner (entry_of array) f degree x degree (le_refl degree) (λ (k : ℕ) (h : k < suc degree). e k (omega arith))
