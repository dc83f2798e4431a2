-- The loop that feeds a solver the prices of a function is brent's run on them, a price at a time. Assumes nothing.
use Rattle.std.specs.Prelude.{Result, Err}
use mathlib.Core.Path.{◌≡◌, refl, sym, ap, ◌∙◌, subst}
use Prim.Native.Nat.{ℕ, zero, suc, ◌+◌}
use native.Mathlib.Omega.{arith}
use lib.Ieee.{Float}
use Rattle.brent.specs.declared.Solver.{Solver}
use Rattle.brent.specs.declared.Answer.{Answer}
use Rattle.brent.specs.declared.Answer.TheVariants.{Ask, Ended}
use Rattle.brent.specs.declared.Solution.{Solution}
use Rattle.brent.specs.declared.Unsolved.{Unsolved}
use Rattle.brent.specs.Outcome.{Reply, asking, ended, outcome_of_implied, outcome}
use Rattle.brent.specs.Feed.{feed, over}
use Rattle.brent.specs.Run.{feed_with, run_with}
use Rattle.brent.proofs.Theorem.{claim}
use Rattle.blackscholes.specs.Implied.{Closed, replied}

pub again : (n m : ℕ) (price : Float → Float) (a : Answer) (v : Float) (s : Solver) (p : Float) (r : Answer) → n ≡ m + 1 → a ≡ Ask v s → p ≡ price v
    → outcome r ≡ feed s p → (feed_with m price (outcome r)).reply ≡ (feed_with n price (outcome a)).reply
unfolding feed_with outcome
again zero m price a v s p r h e f g = absurd (omega arith)
again (suc n) m price a v s p r h e f g = let z : m ≡ n = omega arith in simp (z, e, g, f)

-- ---- 52 prices are enough: brent's theorem
run_closed : (market : Float) (price : Float → Float) → Closed (run_with market price).reply
run_closed market price = let d = (claim.modelled market price).done_with in subst Closed (sym d.1) refl

rested : (n : ℕ) (price : Float → Float) (solved : Result Solution Unsolved) (s : Solver)
    → (feed_with n price (outcome (Ended solved s))).reply ≡ outcome (Ended solved s)
unfolding feed_with outcome
rested zero price solved s = refl
rested (suc n) price solved s = refl

-- a solver that asks nothing rests
pub rests : (n : ℕ) (price : Float → Float) (a : Answer) → ((v : Float) (s : Solver) → a ≡ Ask v s → ⊥) → (feed_with n price (outcome a)).reply ≡ outcome a
rests n price (Ask v s) h = absurd (h v s refl)
rests n price (Ended solved s) h = rested n price solved s

-- one that ended in a refusal is what the loop answers
pub last_refused : (a : Answer) (why : Unsolved) (s : Solver) → a ≡ Ended (Err why) s → Closed (outcome a) → replied (Err why) ≡ outcome a
unfolding outcome
last_refused a why s e h =
    let k : s ≡ over = subst (λ (w : Answer). Closed (outcome w)) e h in
    ap (λ (z : Solver). outcome (Ended (Err why) z)) (sym k) ∙ ap outcome (sym e)

-- An answer from which what is left of a run, n prices of it, ends where the whole run does.
module _ (market : Float) (price : Float → Float) (n : ℕ) (a : Answer) (ends : (feed_with n price (outcome a)).reply ≡ (run_with market price).reply) where
  closed : (reply : Reply) → (feed_with n price (outcome a)).reply ≡ reply → Closed reply
  closed reply e = subst Closed (sym ends ∙ e) (run_closed market price)

  -- one that has ended is the run's
  pub last_ended : (solved : Result Solution Unsolved) (s : Solver) → a ≡ Ended solved s → replied solved ≡ (run_with market price).reply
  unfolding outcome
  last_ended solved s e =
      let last = ap (λ (b : Answer). (feed_with n price (outcome b)).reply) e ∙ rested n price solved s in
      ap (ended (outcome_of_implied solved)) (sym (closed (ended (outcome_of_implied solved) s) last)) ∙ (sym last ∙ ends)

  -- and none asks for a price where none is left
  pub never_asks : (v : Float) (s : Solver) → n ≡ 0 → a ≡ Ask v s → ⊥
  unfolding feed_with outcome
  never_asks v s z e = closed (asking v s) (rw (z, e) refl)
