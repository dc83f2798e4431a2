-- `exponential::horner`: of the table's first entries `rest` are to come, last first, and p is `horner` of the rounds that took the others. Assumes nothing.
use Rattle.std.proofs.Common.{◌≡◌, ℕ, ◌-◌, ◌≤◌, ◌<◌, length}
use Rattle.elementary.specs.Tables.{horner, entry_of}
use Rattle.exponential.proofs.horner.Given as goal

abbrev pub invariant-loop-c : goal.invariant-loop-c
invariant-loop-c l = let rest = l.c-iterator.iter.rest.now in record {
  few : length rest ≤ l.degree;
  same : (i : ℕ) → i < length rest → entry_of rest i ≡ entry_of l.table i;
  sum : l.p ≡ horner (entry_of l.table) l.degree l.x (l.degree - length rest);
}
