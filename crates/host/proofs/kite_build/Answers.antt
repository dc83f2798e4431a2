-- `host::kite_build`: the number and the lengths stand for the answer of the build below. Assumes nothing.
use Rattle.std.proofs.Common.{rules}
use Rattle.host.proofs.Lending.{builds}
use Rattle.host.proofs.kite_build.Goals as goal

pub returns : goal.returns
returns c =
    let b = c.build-built in
    let s = b.ensures.same_memory in
    builds _ _ _ _ b.new.buffers _ _ _ _ _ _ b.ensures.builds c.number_of.ensures c.lengths_of.ensures (search rules)
