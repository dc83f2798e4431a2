-- The values of a function at numbers in a row, as a list; and a list as the values of what stands in it. Assumes nothing.
use Prim.Native.Nat.{ℕ, zero, suc, ◌+◌, ◌≤◌, ◌<◌}
use mathlib.Core.Path.{◌≡◌, refl, ◌∙◌, ap}
use mathlib.Core.List.{List, [], ◌∷◌, map}
use native.Mathlib.Omega.{arith}
use native.Mathlib.Nat.{le_of_suc-le-suc}
use native.Mathlib.Numerals.{add-one}
use lib.ListN.{length, take, drop, get_or, drop_of_length-le}
use Rattle.grid.specs.Layout.{values}

pub length_values : {X : Type 0} (f : ℕ → X) (n k : ℕ) → length (values f n k) ≡ n
unfolding values
length_values f zero k = refl
length_values f (suc n) k = ap suc (length_values f n (suc k))

pub get_d_values : {X : Type 0} (f : ℕ → X) (n k j : ℕ) (d : X) → j < n → get_or (values f n k) j d ≡ f (k + j)
unfolding values
get_d_values f zero k j d h = absurd (omega arith)
get_d_values f (suc n) k zero d h = ap f (omega arith)
get_d_values f (suc n) k (suc j) d h = get_d_values f n (suc k) j d (le_of_suc-le-suc h) ∙ ap f (omega arith)

pub values_same : {X : Type 0} (f g : ℕ → X) (n k : ℕ) → ((j : ℕ) → j < k + n → f j ≡ g j) → values f n k ≡ values g n k
unfolding values
values_same f g zero k e = refl
values_same f g (suc n) k e = rw (e k (omega arith), values_same f g n (suc k) (λ j h. e j (omega arith)))

pub no_values : {X : Type 0} (f : ℕ → X) (row : List X) → length row ≡ 0 → row ≡ values f (length row) 0
unfolding values
no_values f [] h = refl
no_values f (v ∷ vs) h = absurd (omega arith)

pub map_values : {X Y : Type 0} (g : X → Y) (f : ℕ → X) (n k : ℕ) → map g (values f n k) ≡ values (λ i. g (f i)) n k
unfolding values
map_values g f zero k = refl
map_values g f (suc n) k = ap (λ (l : List _). g (f k) ∷ l) (map_values g f n (suc k))

-- the values from place i on
drop_from : {X : Type 0} (f : ℕ → X) (n k i : ℕ) → i < n → drop i (values f n k) ≡ f (k + i) ∷ drop (suc i) (values f n k)
unfolding values
drop_from f zero k i h = absurd (omega arith)
drop_from f (suc n) k zero h =
    let e : k + 0 ≡ k = omega arith in
    rw e
drop_from f (suc n) k (suc i) h =
    let e : suc k + i ≡ k + suc i = omega arith in
    drop_from f n (suc k) i (le_of_suc-le-suc h) ∙ rw e

module _ {X : Type 0} (f : ℕ → X) (n : ℕ) where
  pub values_at : (i : ℕ) → i < n → drop i (values f n 0) ≡ f i ∷ drop (i + 1) (values f n 0)
  values_at i h =
      let e : 0 + i ≡ i = omega arith in
      rw (add-one i) (rw e at (drop_from f n 0 i h))

  pub values_end : (i : ℕ) → n ≤ i → drop i (values f n 0) ≡ []
  values_end i h =
      let q : length (values f n 0) ≤ i = omega (arith, length_values f n 0) in
      drop_of_length-le (values f n 0) q

-- a list is what stands at its places, and its front what stands at the first of them
pub values_list : {X : Type 0} (l : List X) (f : ℕ → X) (k : ℕ) (d : X) → ((i : ℕ) → i < length l → f (k + i) ≡ get_or l i d)
    → values f (length l) k ≡ l
unfolding values
values_list [] f k d h = refl
values_list (x ∷ xs) f k d h =
    let a : f k ≡ x = ap f (omega arith) ∙ h 0 (omega arith) in
    let b = values_list xs f (suc k) d (λ i p. ap f (omega arith) ∙ h (suc i) (omega arith)) in
    rw (a, b)

pub values_front : {X : Type 0} (l : List X) (d : X) (f : ℕ → X) (n k : ℕ) → n ≤ length l → ((i : ℕ) → f (k + i) ≡ get_or l i d)
    → values f n k ≡ take n l
unfolding values
values_front l d f zero k h e = refl
values_front [] d f (suc n) k h e = absurd (omega arith)
values_front (x ∷ xs) d f (suc n) k h e =
    let a : f k ≡ x = ap f (omega arith) ∙ e 0 in
    let b = values_front xs d f n (suc k) (le_of_suc-le-suc h) (λ i. ap f (omega arith) ∙ e (suc i)) in
    rw (a, b)
