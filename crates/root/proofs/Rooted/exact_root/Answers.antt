use Rattle.std.proofs.Common.{arith}
use Rattle.root.proofs.Squares.{below_60, grow}
use Rattle.root.proofs.Rooted.exact_root.Goals as goal

pub step-root-requires-clause-short : goal.step-root-requires-clause-short
step-root-requires-clause-short c =
    let l = c.loop in
    below_60 l.root.0 l.root.1.0 l.rest c.args.t l.counter c.requires (omega arith) l.invariant.digits

pub loop-preserved : goal.loop-preserved
loop-preserved c =
    let g = grow c.args.t c.loop.counter in
    record { digits = omega arith; left = c.step-root.result.left; word = omega arith }
