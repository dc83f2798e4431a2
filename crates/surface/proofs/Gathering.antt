-- Values taken one at a time, but for each that is the last one taken: with the rest behind them they have the axis of all. Assumes nothing.
use Rattle.std.proofs.Common.{Bor}
use Rattle.std.specs.Prelude.{Option, Some, None, All, slice_get}
use Rattle.std.specs.Option.{option_copied}
use Rattle.std.proofs.lemmas.Option.{get_or_from_slice_get, slice_get_past, none-some}
use Prim.Native.Nat.{ℕ, zero, suc, ◌-◌, ◌+◌, ◌<◌}
use mathlib.Core.Path.{◌≡◌, refl, sym, ap, ◌∙◌}
use mathlib.Core.Bool.{Bool, true, false}
use mathlib.Core.List.{List, [], ◌∷◌, ◌++◌, append_assoc}
use native.Mathlib.Omega.{arith}
use native.Mathlib.Numerals.{add-one}
use lib.Dec.{T}
use lib.ListN.{length, get_or, drop}
use lib.Seq.{drop-cons}
use lib.Ieee.{Float, nan, eq}
use lib.Ieee.Positive.{positive, above_of_le}
use Rattle.floats.proofs.Above.{same_of_eq}
use Rattle.floats.proofs.Order.{le_self}
use Rattle.floats.proofs.Signs.{lt_of_above}
use Rattle.floats.proofs.Tests.{clash}
use Rattle.chart.specs.Axis.{axis}
use Rattle.chart.proofs.Twins.{repeated}
use Rattle.surface.proofs.Sorting.{Fine}

-- the last one
abbrev pub last_of : List Float → Float
last_of us = get_or us (length us - 1) nan

same : (x v : Float) → Fine x → Fine v → eq x v ≡ true → x ≡ v
same x v f g h = same_of_eq x v f.1 g.1 (lt_of_above v (above_of_le v v g.0 (le_self v g.0))) h

-- what tests equal to the last one, where there is one, is the last one
pub is_last : (us : List Float) (last : Option (Bor Float)) (v : Float) (test : Bool) → option_copied last ≡ slice_get us (length us - 1)
    → (last ≡ None → test ≡ false) → ((x : Bor Float) → last ≡ Some x → test ≡ eq x.now v) → All Fine us → Fine v → test ≡ true
    → (0 < length us) × (last_of us ≡ v)
is_last us None v test e n s a f t = absurd (clash t (n refl))
is_last [] (Some x) v test e n s a f t = absurd (none-some x.now (sym (e ∙ slice_get_past [] 0 (omega arith))))
is_last (u ∷ us) (Some x) v test e n s a f t =
    let x_is = get_or_from_slice_get (u ∷ us) (length (u ∷ us) - 1) x.now nan (sym e) in
    let h : eq (last_of (u ∷ us)) v ≡ true = ap (λ (l : Float). eq l v) x_is ∙ sym (s x refl) ∙ t in
    (omega arith, same (last_of (u ∷ us)) v (a (length (u ∷ us) - 1) nan (omega arith)) f h)

pub all_one : (v : Float) → Fine v → All Fine (v ∷ [])
all_one v f zero d h = f
all_one v f (suc k) d h = absurd (omega arith)

module _ (values us : List Float) (i : ℕ) (h : i < length values) where
  next : drop i values ≡ get_or values i nan ∷ drop (i + 1) values
  next = rw add-one (drop-cons values i nan h)

  -- v is the last one taken
  pub left_out : T (positive (get_or values i nan)) → (0 < length us) × (last_of us ≡ get_or values i nan)
      → axis (us ++ drop (i + 1) values) ≡ axis (us ++ drop i values)
  left_out p l = sym (ap (λ (rest : List Float). axis (us ++ rest)) next ∙ repeated [] us (get_or values i nan) (drop (i + 1) values) p l.0 l.1)

  pub taken : axis ((us ++ get_or values i nan ∷ []) ++ drop (i + 1) values) ≡ axis (us ++ drop i values)
  taken = ap axis (append_assoc us (get_or values i nan ∷ []) (drop (i + 1) values) ∙ ap (λ (rest : List Float). us ++ rest) (sym next))
