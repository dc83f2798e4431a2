-- Where a list parts by a test that holds of its values up to some place and of none behind it, as `partition_point` finds it. Assumes nothing.
use Prim.Native.Nat.{ℕ, zero, suc, ◌+◌, ◌*◌, ◌≤◌}
use mathlib.Core.Path.{◌≡◌, refl, ap}
use mathlib.Core.Bool.{Bool, true, false}
use mathlib.Core.List.{List, [], ◌∷◌}
use native.Mathlib.Nat.{le_of_suc-le-suc}
use native.Mathlib.Omega.{arith}
use lib.Dec.{ltb, eqb}
use lib.ListN.{length, get_or}
use lib.Ieee.{Float, nan, inf, fin, up, down, below, level, lt, eq, le, is_nan}
use borrow.Author.Tests.{ltb-true, ltb-false, le-ltb, eqb-true}
use Rattle.std.proofs.lemmas.List.{get_or_default}
use Rattle.std.specs.List.Sorted.{IsPartitionedBy, IsPartitionPoint}
use Rattle.floats.specs.Operators.{◌≺◌, ◌≼◌}
use Rattle.floats.proofs.Tests.{split, clash, and_left, and_right}
use Rattle.floats.proofs.Less.{lt_turns, lt_through, lt_le, above_some}
use Rattle.grid.specs.Search.{first_where}
use Rattle.grid.specs.Readings.{is_axis}
use Rattle.grid.proofs.Axes.{axis_rises}

-- ---- a value below one that is at most x is at most x
level_below : (s t : Bool) (a b : ℕ) → level s a t b ≡ true → below t b s a ≡ false
level_below false false a b h = let e = eqb-true a b (and_left (eqb a b) true h) in le-ltb b a (omega arith)
level_below true true a b h = let e = eqb-true a b (and_left (eqb a b) true h) in le-ltb a b (omega arith)
level_below true false a b h = refl
level_below false true a b h =
    let e = eqb-true a b (and_left (eqb a b) (eqb a 0) h) in
    let z = eqb-true a 0 (and_right (eqb a b) (eqb a 0) h) in
    le-ltb 0 (b + a) (omega arith)

equal_not_below : (z x : Float) → eq z x ≡ true → x ≺ z ≡ false
unfolding eq lt
equal_not_below nan x h = clash h refl
equal_not_below (inf s) nan h = refl
equal_not_below (inf true) (inf true) h = refl
equal_not_below (inf true) (inf false) h = refl
equal_not_below (inf false) (inf true) h = clash h refl
equal_not_below (inf false) (inf false) h = refl
equal_not_below (inf s) (fin t n d) h = clash h refl
equal_not_below (fin s m e) nan h = refl
equal_not_below (fin s m e) (inf t) h = clash h refl
equal_not_below (fin s m e) (fin t n d) h = level_below s t (m * up e * down d) (n * up d * down e) h

equal_some : (z x : Float) → eq z x ≡ true → is_nan x ≡ false
unfolding eq is_nan
equal_some nan x h = clash h refl
equal_some (inf s) nan h = clash h refl
equal_some (inf s) (inf t) h = refl
equal_some (inf s) (fin t n d) h = refl
equal_some (fin s m e) nan h = clash h refl
equal_some (fin s m e) (inf t) h = refl
equal_some (fin s m e) (fin t n d) h = refl

lt_before_le : (y z x : Float) → y ≺ z ≡ true → z ≼ x ≡ true → y ≼ x ≡ true
unfolding le
lt_before_le y z x h k =
    split (z ≺ x)
    (λ t. lt_le y x (lt_through y z x (above_some z x t) h (lt_turns z x t)))
    (λ f.
    let e : eq z x ≡ true = (rw f at k) in
    lt_le y x (lt_through y z x (equal_some z x e) h (equal_not_below z x e)))

-- ---- so the values of an axis that are at most x stand before the others
pub axis_parted : (x : Float) (axis : List Float) → is_axis axis ≡ true → IsPartitionedBy (λ v. v ≼ x) axis
axis_parted x axis a i j d h k t =
    split (ltb i j)
    (λ u.
    let l = ltb-true i j u in
    let i' = get_or_default axis i d nan (omega arith) in
    let j' = get_or_default axis j d nan k in
    rw i' (lt_before_le (get_or axis i nan) (get_or axis j nan) x (axis_rises axis a i j l k) (rw j' at t)))
    (λ u. let e : i ≡ j = (let w = ltb-false i j u in omega arith) in rw e t)

-- ---- the place found is that of the first value that passes
module _ (p q : Float → Bool) (before : (v : Float) → q v ≡ true → p v ≡ false) (behind : (v : Float) → q v ≡ false → p v ≡ true) where
  pub first_at : (xs : List Float) (i : ℕ) → i ≤ length xs → IsPartitionPoint (λ v. q v ≡ true) (λ v. q v ≡ false) xs i → i ≡ first_where p xs
  unfolding first_where
  first_at [] i h P = omega arith
  first_at (x ∷ xs) zero h P = rw (behind x (P.1 0 nan (omega arith) (omega arith)))
  first_at (x ∷ xs) (suc i) h P =
      let rest = first_at xs i (le_of_suc-le-suc h)
      ((λ k d a b. P.0 (suc k) d (omega arith) (omega arith)), (λ k d a b. P.1 (suc k) d (omega arith) (omega arith))) in
      rw (before x (P.0 0 nan (omega arith) (omega arith))) (ap suc rest)
