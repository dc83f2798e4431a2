-- The lines that bytes end, and the line that is held, as counts. Assumes nothing.
use Rattle.std.specs.Prelude.{◌==◌, count_by}
use Rattle.std.proofs.lemmas.List.Recursion.{is_sum_by}
use mathlib.Core.Path.{◌≡◌, refl, ap}
use mathlib.Core.List.{List, [], ◌∷◌}
use Prim.Native.Nat.{ℕ}
use native.Mathlib.Omega.{arith}
use borrow.Author.Tests.{eqb-true, eqb-false}
use lib.Dec.{eqb}
use lib.ListN.{length, take, length-take}
use Rattle.floats.proofs.Tests.{split}
use Rattle.hexlines.specs.Lines.{cap, unended, held, feed_in, feeds}
use Rattle.hexlines.specs.declared.Line.{Line}

-- ---- the lines that bytes end, counted

pub feeds_counted : (bytes : List ℕ) → feeds bytes ≡ count_by (λ b. b == 10) bytes
unfolding feeds feed_in
feeds_counted bytes = is_sum_by feeds feed_in refl (λ c cs. refl) bytes

-- ---- the part of a line that is held

pub begun_none : (l : Line) → l.seen ≡ 0 → length (unended (held l)) ≡ 0
unfolding unended
begun_none l e = ap (λ (n : ℕ). length (unended (take n l.bytes))) e

one : (p : List ℕ) → (length p ≡ 0 → ⊥) → length (unended p) ≡ 1
unfolding unended
one [] n = absurd (n refl)
one (x ∷ p) n = refl

pub begun_some : (l : Line) → length l.bytes ≡ cap → (l.seen ≡ 0 → ⊥) → length (unended (held l)) ≡ 1
begun_some l k n = one (held l) (λ z. n (omega (arith, rw length-take at z)))

pub seen_none : (l : Line) → length l.bytes ≡ cap → length (unended (held l)) ≡ 0 → l.seen ≡ 0
seen_none l k e = split (eqb l.seen 0) (λ t. eqb-true l.seen 0 t) (λ t. absurd (omega (arith, begun_some l k (eqb-false l.seen 0 t))))
