-- `desk::Memory::hear`: the text has room, and the state after the turn is the one that is held. Assumes nothing.
use native.Mathlib.Omega.{arith}
use Rattle.book.specs.Lent.{columns_held}
use Rattle.desk.proofs.Turns.{within, roomy, stopped, heard}
use Rattle.desk.proofs.Memory.hear.Goals as goal

pub write-requires : goal.write-requires
write-requires c =
    let m = c.args.self.now in
    let held = columns_held m.columns in
    let turned = c.in-Continue.ensures.turned in
    record {
      in_bounds = omega (arith, within c.args.state held c.args.part.now m.out _ _ turned);
      had_room = roomy c.args.state held c.args.part.now m.out _ _ turned (omega arith) (omega arith);
    }

pub returns-then-not-write-clause-heard : goal.returns-then-not-write-clause-heard
returns-then-not-write-clause-heard c =
    let m = c.args.self.now in stopped c.args.state (columns_held m.columns) c.args.part.now m.out _ _ c.in-Continue.ensures.turned

pub returns-else-not-write-clause-heard : goal.returns-else-not-write-clause-heard
returns-else-not-write-clause-heard c =
    let m = c.args.self.now in heard c.args.state (columns_held m.columns) c.args.part.now m.out _ _ c.in-Continue.ensures.turned

pub write-requires-in-Break : goal.write-requires-in-Break
write-requires-in-Break c =
    let m = c.args.self.now in
    let held = columns_held m.columns in
    let turned = c.in-Break.ensures.turned in
    record {
      in_bounds = omega (arith, within c.args.state held c.args.part.now m.out _ _ turned);
      had_room = roomy c.args.state held c.args.part.now m.out _ _ turned (omega arith) (omega arith);
    }

pub returns-in-Break-clause-heard : goal.returns-in-Break-clause-heard
returns-in-Break-clause-heard c =
    let m = c.args.self.now in stopped c.args.state (columns_held m.columns) c.args.part.now m.out _ _ c.in-Break.ensures.turned
