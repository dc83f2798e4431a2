-- `exponential::ln`: what is made of floats below 0.0, and of 0.0. Assumes nothing.
use Rattle.std.proofs.Common.{◌≡◌, true, refl}
use lib.Ieee.{Float, nan, inf}
use Rattle.floats.proofs.Exceptions.{at_negative, at_zero}
use Rattle.elementary.specs.Ln.{ln}
use Rattle.exponential.proofs.Definitions.{opened}
use Rattle.exponential.proofs.ln.Goals as goal

pub returns-then-v : goal.returns-then-v
unfolding opened
returns-then-v c = at_negative (λ (v : Float). nan ≡ ln v) refl (λ m e. refl) c.args.v c.if-v.true

pub returns-then-v-2 : goal.returns-then-v-2
unfolding opened
returns-then-v-2 c = at_zero (λ (v : Float). inf true ≡ ln v) (λ s e. refl) c.args.v c.if-v-2.true
