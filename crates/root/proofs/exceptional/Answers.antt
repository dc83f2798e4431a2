-- `root::exceptional`: what is made of floats below 0.0, and of 0.0. Assumes nothing.
use Rattle.std.proofs.Common.{◌≡◌, refl}
use lib.Ieee.{Float, nan}
use Rattle.floats.proofs.Exceptions.{at_negative, at_zero}
use Rattle.root.specs.Root.{sqrt}
use Rattle.root.proofs.Definitions.{opened}
use Rattle.root.proofs.exceptional.Goals as goal

pub returns-then-v : goal.returns-then-v
unfolding opened
returns-then-v c = at_negative (λ (v : Float). nan ≡ sqrt v) refl (λ m e. refl) c.args.v c.if-v.true

pub returns-then-v-2 : goal.returns-then-v-2
unfolding opened
returns-then-v-2 c = at_zero (λ (v : Float). v ≡ sqrt v) (λ s e. refl) c.args.v c.if-v-2.true
