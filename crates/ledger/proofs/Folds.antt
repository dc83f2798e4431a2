-- Two folds over one list, followed side by side: what each item keeps holds at the end, and what it is told is as it should be each time. Assumes nothing.
use mathlib.Core.Path.{◌≡◌}
use Prim.Native.Nat.{ℕ, ◌+◌}
use native.Mathlib.Omega.{arith}
use mathlib.Core.List.{List, [], ◌∷◌, map}
use Rattle.ledger.specs.Fold.{after, along, Each}
use Rattle.ledger.specs.Claim.{sum}

-- P relates what the one fold holds and what the other holds
module _ {S T I : Type 0} (f : S → I → S) (g : T → I → T) (P : S → T → Type 0) (keeps : (s : S) (t : T) (i : I) → P s t → P (f s i) (g t i)) where
  pub holds_after : (s : S) (t : T) (items : List I) → P s t → P (after f s items) (after g t items)
  unfolding after
  holds_after s t [] p = p
  holds_after s t (i ∷ is) p = holds_after (f s i) (g t i) is (keeps s t i p)

  pub holds_each : {R : Type 0} (tell : S → I → R) (Q : T → I → R → Type 0) → ((s : S) (t : T) (i : I) → P s t → Q t i (tell s i))
      → (s : S) (t : T) (items : List I) → P s t → Each g Q t items (along f tell s items)
  unfolding along
  holds_each tell Q q s t [] p = tt
  holds_each tell Q q s t (i ∷ is) p = (q s t i p, holds_each tell Q q (f s i) (g t i) is (keeps s t i p))

  pub holds_sum : {R : Type 0} (tell : S → I → R) (held : S → ℕ) (weight : R → ℕ)
      → ((s : S) (t : T) (i : I) → P s t → held (f s i) ≡ held s + weight (tell s i))
      → (s : S) (t : T) (items : List I) → P s t → held (after f s items) ≡ held s + sum (map weight (along f tell s items))
  unfolding after along sum
  holds_sum tell held weight q s t [] p = omega arith
  holds_sum tell held weight q s t (i ∷ is) p =
      let e = q s t i p in
      let r = holds_sum tell held weight q (f s i) (g t i) is (keeps s t i p) in
      omega arith
