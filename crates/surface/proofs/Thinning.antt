-- The thinning of sorted values in their place, one at a time: those kept, and what of the rest is kept after the last of them. Assumes nothing.
use Rattle.std.proofs.Common.{Some, None}
use Rattle.std.specs.Prelude.{slice_get}
use Rattle.std.proofs.lemmas.Option.{get_or_from_slice_get, none-some}
use Rattle.std.proofs.lemmas.List.{drop-set-lt}
use Prim.Native.Nat.{ℕ, suc, ◌+◌, ◌<◌, ◌≤◌}
use mathlib.Core.Path.{◌≡◌, refl, sym, ap}
use mathlib.Core.Bool.{true, false}
use mathlib.Core.List.{List, [], ◌∷◌, ◌++◌, append_assoc, append-nil}
use native.Mathlib.Omega.{arith}
use native.Mathlib.Numerals.{add-one}
use lib.ListN.{length, get_or, take, drop, set, drop_of_length-le}
use lib.Seq.{take-suc-set, drop-cons}
use lib.Ieee.{Float, nan}
use Rattle.chart.specs.Axis.{kept_after, thinned}
use Rattle.chart.specs.Steps.{reaches}

-- no value, or one at least
pub nothing : (a : List Float) → slice_get a 0 ≡ None → [] ≡ thinned a
unfolding thinned
nothing [] e = refl
nothing (y ∷ ys) e = absurd (none-some y (sym e))

pub some_value : (a : List Float) (first : Float) → slice_get a 0 ≡ Some first → 0 < length a
some_value [] first e = absurd (none-some first e)
some_value (y ∷ ys) first e = omega arith

pub started : (a : List Float) (first : Float) → slice_get a 0 ≡ Some first → take 1 a ++ kept_after first (drop 1 a) ≡ thinned a
unfolding thinned
started [] first e = absurd (none-some first e)
started (y ∷ ys) first e = ap (λ (l : Float). y ∷ kept_after l ys) (sym (get_or_from_slice_get (y ∷ ys) 0 first nan e))

module _ (a : List Float) (i : ℕ) (last : Float) (h : i < length a) where
  next : drop i a ≡ get_or a i nan ∷ drop (i + 1) a
  next = rw add-one (drop-cons a i nan h)

  pub dropped : reaches last (get_or a i nan) ≡ true → kept_after last (drop (i + 1) a) ≡ kept_after last (drop i a)
  unfolding kept_after
  dropped e = rw (next, e)

  pub kept : (w : ℕ) → w ≤ i → reaches last (get_or a i nan) ≡ false
      → take (w + 1) (set a w (get_or a i nan)) ++ kept_after (get_or a i nan) (drop (i + 1) (set a w (get_or a i nan)))
      ≡ take w a ++ kept_after last (drop i a)
  unfolding kept_after
  kept w m e =
      let q : w < length a = omega arith in
      let s : w < suc i = omega arith in
      rw (next, e, add-one w, add-one i, take-suc-set a w (get_or a i nan) q, drop-set-lt (suc i) a w (get_or a i nan) s, append_assoc)

pub ended : (a : List Float) (i w : ℕ) (last : Float) → length a ≤ i → take w a ++ kept_after last (drop i a) ≡ take w a
unfolding kept_after
ended a i w last h = rw (drop_of_length-le a h, append-nil)
