-- `root::Rooted::rounded`: with rem above q the root of 4 * (q * q + rem) is 2 * q + 1, else 2 * q (Squares). Assumes nothing.
use Rattle.std.proofs.Common.{◌≡◌, ℕ, ◌+◌, ◌*◌, ◌/◌, ◌^◌, ◌≤◌, ◌<◌, arith}
use native.Mathlib.Nat.{mul-le-mul}
use Rattle.root.specs.Root.{whole_root}
use Rattle.root.proofs.Squares.{IsRoot, whole_root_is, whole_root_unique}
use Rattle.root.proofs.Rooted.rounded.Goals as goal

module _ (q rem : ℕ) (l : rem ≤ 2 * q) (h : q < 2 ^ 53) where
  under_lt : 4 * (q * q + rem) < 2 ^ 108
  under_lt =
      let g : q + 1 ≤ 9007199254740992 = omega arith in
      let s = mul-le-mul g g in
      omega arith

  is_root : (r : ℕ) → IsRoot (4 * (q * q + rem)) r → whole_root 54 (4 * (q * q + rem)) ≡ r
  is_root r i = whole_root_unique (4 * (q * q + rem)) (whole_root 54 (4 * (q * q + rem))) r (whole_root_is 54 (4 * (q * q + rem)) under_lt) i

  up : q < rem → q + 1 ≡ (whole_root 54 (4 * (q * q + rem)) + 1) / 2
  unfolding IsRoot
  up g = let e = is_root (2 * q + 1) (omega arith, omega arith) in omega arith

  down : rem ≤ q → q ≡ (whole_root 54 (4 * (q * q + rem)) + 1) / 2
  unfolding IsRoot
  down g = let e = is_root (2 * q) (omega arith, omega arith) in omega arith

pub returns-then-self : goal.returns-then-self
returns-then-self c = let r = c.args.self in up r.q r.rem r.left c.requires c.if-self.true

pub returns-else-self : goal.returns-else-self
returns-else-self c = let r = c.args.self in down r.q r.rem r.left c.requires c.if-self.false
