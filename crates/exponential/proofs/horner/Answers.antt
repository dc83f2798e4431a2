use Rattle.std.proofs.Common.{◌≡◌, ℕ, suc, ◌+◌, ◌-◌, ◌≤◌, ◌<◌, List, [], ◌∷◌, ◌++◌, length, take, refl, sym, ap, ◌∙◌, subst, arith}
use Rattle.std.proofs.Math.ListN.{get_or-append}
use Rattle.std.proofs.lemmas.List.{length-take-le, length_push, get_or_push, get_or-take}
use lib.Ieee.{Float, nan}
use Rattle.floats.specs.Operators.{◌⊕◌, ◌⊗◌}
use Rattle.elementary.specs.Tables.{horner, entry_of}
use Rattle.exponential.proofs.horner.Goals as goal

module _ (table : List Float) where
  -- rest is the first entries of the table
  abbrev First : List Float → Type 0
  First rest = (i : ℕ) → i < length rest → entry_of rest i ≡ entry_of table i

  first : (n : ℕ) → n ≤ length table → (length (take n table) ≡ n) × First (take n table)
  first n h = let e = length-take-le n table h in (e, λ i l. get_or-take n table i nan (omega arith))

  others : (rest : List Float) (d : Float) → First (rest ++ d ∷ []) → First rest
  others rest d f i h = sym (get_or-append rest (d ∷ []) nan i h) ∙ f i (let e = length_push rest d in omega arith)

  last : (rest : List Float) (d : Float) → First (rest ++ d ∷ []) → d ≡ entry_of table (length rest)
  last rest d f = sym (get_or_push rest d nan (length rest) refl) ∙ f (length rest) (let e = length_push rest d in omega arith)

  start : (degree : ℕ) (x : Float) → entry_of table degree ≡ horner (entry_of table) degree x (degree - degree)
  unfolding horner
  start degree x = let z : degree - degree ≡ 0 = omega arith in rw z

  next : (degree : ℕ) (x p d : Float) (n : ℕ) → n + 1 ≤ degree → p ≡ horner (entry_of table) degree x (degree - (n + 1)) → d ≡ entry_of table n
      → p ⊗ x ⊕ d ≡ horner (entry_of table) degree x (degree - n)
  unfolding horner
  next degree x p d n h e f =
      let s : degree - n ≡ suc (degree - (n + 1)) = omega arith in
      let i : degree - 1 - (degree - (n + 1)) ≡ n = omega arith in
      rw s (simp (i, e, f))

pub loop-c-init : goal.loop-c-init
loop-c-init c =
    let table = c.args.table.now in
    let degree = length table - 1 in
    let f = first table degree (omega arith) in
    let e : c.into_iter-c-iterator.result.iter.rest.now ≡ take degree table =
    simp (c.into_iter-c-iterator.ensures.into_iter_gives, c.rev-c-items.ensures.source, c.iter.ensures.rest) in
    record {
      few = rw e (omega arith);
      same = subst (First table) (sym e) f.1;
      sum = rw (e, f.0) (start table degree c.args.x);
    }

pub loop-c-preserved : goal.loop-c-preserved
loop-c-preserved c =
    let l = c.loop-c in
    let table = c.args.table.now in
    let rest = c.next.new.self.iter.rest.now in
    let d = c.in-Some.c.now in
    let e = c.in-Some.ensures.steps in
    let f : First table (rest ++ d ∷ []) = subst (First table) e l.invariant.same in
    let n : length l.c-iterator.iter.rest.now ≡ length rest + 1 = ap length e ∙ length_push rest d in
    let few = l.invariant.few in
    record {
      few = omega arith;
      same = others table rest d f;
      sum = next table (length table - 1) c.args.x l.p d (length rest) (omega arith)
          (l.invariant.sum ∙ ap (λ (k : ℕ). horner (entry_of table) (length table - 1) c.args.x (length table - 1 - k)) n)
          (last table rest d f);
    }
