-- The first n values of a list, one after the other. Assumes nothing.
use Prim.Native.Nat.{ℕ, ◌+◌, ◌≤◌, ◌<◌}
use mathlib.Core.Path.{◌≡◌}
use mathlib.Core.List.{List, [], ◌∷◌}
use native.Mathlib.Omega.{arith}
use native.Mathlib.Numerals.{add-one}
use lib.ListN.{length, take, drop, get_or, drop_of_length-le}
use lib.Seq.{drop-cons, get_or-take, length-take-le}

module _ {X : Type 0} (a : List X) (n i : ℕ) (h : n ≤ length a) where
  pub front_at : (d : X) → i < n → drop i (take n a) ≡ get_or a i d ∷ drop (i + 1) (take n a)
  front_at d k =
      let q : i < length (take n a) = simp length-take-le (omega arith) in
      rw (drop-cons (take n a) i d q, get_or-take, add-one)

  pub front_end : n ≤ i → drop i (take n a) ≡ []
  front_end k =
      let q : length (take n a) ≤ i = simp length-take-le (omega arith) in
      drop_of_length-le (take n a) q
