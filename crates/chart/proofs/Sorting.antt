-- Insertion sort, a step at a time. Assumes nothing.
use Prim.Native.Nat.{ℕ, ◌+◌, ◌≤◌, ◌<◌}
use mathlib.Core.Path.{◌≡◌, refl, ap}
use mathlib.Core.List.{List, [], ◌∷◌, ◌++◌}
use native.Mathlib.Omega.{arith}
use native.Mathlib.Numerals.{add-one}
use lib.ListN.{length, take, drop, get_or, drop_of_length-le}
use lib.Seq.{length-take-le, drop-cons}
use lib.Ieee.{Float, nan}
use Rattle.floats.specs.Operators.{◌≺◌}
use Rattle.grid.specs.Search.{first_where}
use Rattle.grid.proofs.First.{first_most}
use Rattle.chart.specs.Axis.{insert, sorted_into}
use Rattle.floats.proofs.Tests.{split}

-- how many values stand before the first one above x
abbrev pub above : Float → List Float → ℕ
above x ys = first_where (λ y. x ≺ y) ys

pub insert_split : (x : Float) (ys : List Float) → insert x ys ≡ take (above x ys) ys ++ x ∷ drop (above x ys) ys
unfolding first_where insert
insert_split x [] = refl
insert_split x (y ∷ ys) = split (x ≺ y) (λ e. rw e) (λ e. rw e (ap (λ (l : List Float). y ∷ l) (insert_split x ys)))

pub place_most : (a : List Float) (n p : ℕ) (x : Float) → n ≤ length a → p ≡ above x (take n a) → p ≤ n
place_most a n p x h e = omega (arith, first_most (λ y. x ≺ y) (take n a), length-take-le n a h)

pub sort_step : (ys xs : List Float) (i : ℕ) → i < length xs
    → sorted_into (insert (get_or xs i nan) ys) (drop (i + 1) xs) ≡ sorted_into ys (drop i xs)
unfolding sorted_into
sort_step ys xs i h = rw (drop-cons xs i nan h, add-one)

pub sort_end : (ys xs : List Float) (i : ℕ) → length xs ≤ i → sorted_into ys (drop i xs) ≡ ys
unfolding sorted_into
sort_end ys xs i h = rw (drop_of_length-le xs h)
