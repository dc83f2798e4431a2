-- `Placed::home`: each quote has its place on both axes, which are short. Assumes nothing.
use Rattle.surface.proofs.Placing.{housed}
use native.Mathlib.Omega.{arith}
use Rattle.surface.proofs.cells.Placed.home.Goals as goal

pub place-requires : goal.place-requires
place-requires c = (housed c.args.self.now c.args.i c.requires).0

pub place-requires-2 : goal.place-requires-2
place-requires-2 c = (housed c.args.self.now c.args.i c.requires).1

pub overflow_mul-result : goal.overflow_mul-result
overflow_mul-result c =
    let h = housed c.args.self.now c.args.i c.requires in
    omega (arith, c.place.ensures, h.0.inside, c.args.self.now.low)

pub overflow_add-result : goal.overflow_add-result
overflow_add-result c =
    let h = housed c.args.self.now c.args.i c.requires in
    omega (arith, c.place.ensures, h.0.inside, c.args.self.now.low, c.place-2.ensures, h.1.inside, c.args.self.now.narrow)

pub returns : goal.returns
returns c =
    let s = c.args.self.now in
    let h = housed s c.args.i c.requires in
    (rw (c.place.ensures, c.place-2.ensures), omega (arith, c.place.ensures, h.0.inside, s.low, c.place-2.ensures, h.1.inside, s.narrow))
