-- `root::Rooted::exact_root`: after n rounds the root is that of the digits taken, and `rest` has those to come, at the left end. Assumes nothing.
use Rattle.std.proofs.Common.{◌≡◌, ◌+◌, ◌*◌, ◌^◌, ◌≤◌, ◌<◌}
use Rattle.root.proofs.Rooted.exact_root.Given as goal

abbrev pub invariant-loop : goal.invariant-loop
invariant-loop l = record {
  digits : (l.root.0 * l.root.0 + l.root.1.0) * 2 ^ 64 + l.rest ≡ 2 ^ 10 * (l.t * 2 ^ (2 * l.counter));
  left : l.root.1.0 ≤ 2 * l.root.0;
  word : l.rest < 2 ^ 64;
}
