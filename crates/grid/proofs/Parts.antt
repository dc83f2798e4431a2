-- A part put into a list: what stands before it, in it and after it. Assumes nothing.
use Prim.Native.Nat.{ℕ, ◌+◌, ◌-◌, ◌≤◌, ◌<◌}
use mathlib.Core.Path.{◌≡◌, ◌∙◌, ap}
use mathlib.Core.List.{List, ◌++◌}
use native.Mathlib.Omega.{arith}
use lib.ListN.{length, take, drop, get_or, length-append, length-drop, get_or-append}
use lib.Seq.{get_or-take, get_or-drop, get_or-append-add, length-take-le}

module _ {X : Type 0} (g vs : List X) (a n : ℕ) (l : a + n ≤ length g) (e : length vs ≡ n) where
  abbrev put : List X
  put = take a g ++ (vs ++ drop n (drop a g))

  size : length (take a g) ≡ a
  size = length-take-le a g (omega arith)

  pub put_length : length put ≡ length g
  put_length =
      let rest = drop n (drop a g) in
      omega (arith, size, length-append (take a g) (vs ++ rest), length-append vs rest, length-drop n (drop a g), length-drop a g)

  pub put_before : (d : X) (p : ℕ) → p < a → get_or put p d ≡ get_or g p d
  put_before d p h = get_or-append (take a g) _ d p (omega (arith, size)) ∙ get_or-take a g p d h

  pub put_here : (d : X) (j : ℕ) → j < n → get_or put (a + j) d ≡ get_or vs j d
  put_here d j h =
      let q : a + j ≡ length (take a g) + j = omega (arith, size) in
      rw q (get_or-append-add (take a g) (vs ++ drop n (drop a g)) j d ∙ get_or-append vs _ d j (omega arith))

  pub put_after : (d : X) (p : ℕ) → a + n ≤ p → get_or put p d ≡ get_or g p d
  put_after d p h =
      let q : p ≡ length (take a g) + (length vs + (p - (a + n))) = omega (arith, size) in
      let r : a + (n + (p - (a + n))) ≡ p = omega arith in
      ap (λ (k : ℕ). get_or put k d) q ∙ get_or-append-add (take a g) (vs ++ drop n (drop a g)) (length vs + (p - (a + n))) d
      ∙ get_or-append-add vs (drop n (drop a g)) (p - (a + n)) d
      ∙ get_or-drop n (drop a g) (p - (a + n)) d ∙ get_or-drop a g (n + (p - (a + n))) d ∙ ap (λ (k : ℕ). get_or g k d) r
