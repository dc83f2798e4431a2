-- One name that opens the definitions that the functions are equal to, with the literals of the code. Assumes nothing.
use Rattle.std.specs.Prelude.{⊤}
use Rattle.brent.specs.Feed.{over, fresh, refuse, find, ask, start, placed, in_range, is_unusable, is_unbracketed, feed_number, feed}
use Rattle.limits.proofs.Float.{of_bits, round}
use Rattle.brent.specs.Outcome.{outcome, outcome_of_implied}
use Rattle.limits.specs.Checks.{first}

unfoldable pub opened : ⊤
unfolding over fresh refuse find ask start placed in_range is_unusable is_unbracketed feed_number feed of_bits round outcome outcome_of_implied first
opened = tt
