-- What document 01 says of the calls' checks and refusals. Assumes nothing.
use Rattle.std.specs.Prelude.{if◌then◌else◌}
use mathlib.Core.Path.{◌≡◌, refl, sym, ap, subst}
use mathlib.Core.Bool.{true, false, not}
use Prim.Native.Nat.{ℕ}
use lib.Dec.{eqb}
use lib.Ieee.{Float}
use Rattle.floats.specs.Operators.{decimal}
use Rattle.floats.proofs.Tests.{split}
use Rattle.limits.specs.Ranges.{is_price, is_spot, is_strike, is_expiry, is_rate, is_volatility}
use Rattle.limits.specs.Checks.{first, none}
use Rattle.limits.specs.Outcome.{refused, answered}
use Rattle.limits.proofs.Checks.{first_holds, first_passes}
use Rattle.limits.proofs.Refusals.{outcome_read}
use Rattle.brent.specs.declared.Solution.{Solution}
use Rattle.brent.specs.declared.Solver.{Solver}
use Rattle.brent.specs.Outcome.{Reply, ended, zeros}
use Rattle.brent.specs.Feed.{over}
use Rattle.brent.specs.Run.{run_with}
use Rattle.brent.specs.Claim as brent
use Rattle.brent.proofs.Theorem as theorem
use Rattle.blackscholes.specs.Model.{at_volatility, price}
use Rattle.blackscholes.specs.Greeks.{greeks}
use Rattle.blackscholes.specs.Checks.{option_refusal, refusal, pricing, no_greeks, sensitivities}
use Rattle.blackscholes.specs.Implied.{implied_refusal, implied}
use Rattle.blackscholes.specs.Claim.{OfOption, by_6, by_7, by_8, by_9, InRange, OfModel, OfImplied}
use Rattle.blackscholes.specs.Claim.{Blank, PriceAnswer, GreeksAnswer, ImpliedAnswer, Claim}
use Rattle.blackscholes.specs.declared.OptionParams.{OptionParams}

-- ---- the lines of the chain, one after the other
module _ (p : OptionParams) (rest : ℕ) where
  at_6 : is_spot p.spot ≡ false → option_refusal p rest ≡ 6
  unfolding option_refusal first
  at_6 a = simp a

  at_7 : is_spot p.spot ≡ true → is_strike p.strike ≡ false → option_refusal p rest ≡ 7
  unfolding option_refusal first
  at_7 a b = simp (a, b)

  at_8 : is_spot p.spot ≡ true → is_strike p.strike ≡ true → is_expiry p.time_to_expiry ≡ false → option_refusal p rest ≡ 8
  unfolding option_refusal first
  at_8 a b c = simp (a, b, c)

  at_9 : is_spot p.spot ≡ true → is_strike p.strike ≡ true → is_expiry p.time_to_expiry ≡ true → is_rate p.risk_free_rate ≡ false
      → option_refusal p rest ≡ 9
  unfolding option_refusal first
  at_9 a b c d = simp (a, b, c, d)

  at_rest : InRange p → option_refusal p rest ≡ rest
  unfolding option_refusal first
  at_rest i = simp (i.spot, i.strike, i.expiry, i.rate)

  by_option : (X : ℕ → Type 0) → ((n : ℕ) → OfOption p n → X n) → (InRange p → X rest) → X (option_refusal p rest)
  by_option X refuses passes =
      split (is_spot p.spot)
      (λ a. split (is_strike p.strike)
      (λ b. split (is_expiry p.time_to_expiry)
      (λ c. split (is_rate p.risk_free_rate)
      (λ d. let i : InRange p = record { spot = a; strike = b; expiry = c; rate = d } in subst X (sym (at_rest i)) (passes i))
      (λ d. subst X (sym (at_9 a b c d)) (refuses 9 (by_9 a b c d))))
      (λ c. subst X (sym (at_8 a b c)) (refuses 8 (by_8 a b c))))
      (λ b. subst X (sym (at_7 a b)) (refuses 7 (by_7 a b))))
      (λ a. subst X (sym (at_6 a)) (refuses 6 (by_6 a)))

by_model : (p : OptionParams) (X : ℕ → Type 0) → ((n : ℕ) → OfModel p n → X n) → (InRange p → is_volatility p.volatility ≡ true → X none) → X (refusal p)
unfolding refusal
by_model p X refuses passes =
    by_option p (first (not (is_volatility p.volatility)) 10 none) X (λ n m. refuses n (OfModel.by_option m))
    (λ i. split (is_volatility p.volatility)
    (λ t. subst X (sym (first_passes (not (is_volatility p.volatility)) 10 none (ap not t))) (passes i t))
    (λ f. subst X (sym (first_holds (not (is_volatility p.volatility)) 10 none (ap not f))) (refuses 10 (OfModel.by_10 i f))))

by_implied : (market : Float) (p : OptionParams) (X : ℕ → Type 0) → ((n : ℕ) → OfImplied market p n → X n)
    → (is_price market ≡ true → InRange p → X none) → X (implied_refusal market p)
unfolding implied_refusal
by_implied market p X refuses passes =
    split (is_price market)
    (λ t. subst X (sym (first_passes (not (is_price market)) 5 _ (ap not t)))
    (by_option p none X (λ n m. refuses n (OfImplied.by_option t m)) (λ i. passes t i)))
    (λ f. subst X (sym (first_holds (not (is_price market)) 5 _ (ap not f))) (refuses 5 (OfImplied.by_5 f)))

-- ---- a number that comes is not none
option_some : {p : OptionParams} {n : ℕ} → OfOption p n → eqb n none ≡ false
option_some (by_6 f) = refl
option_some (by_7 a f) = refl
option_some (by_8 a b f) = refl
option_some (by_9 a b c f) = refl

model_some : {p : OptionParams} {n : ℕ} → OfModel p n → eqb n none ≡ false
model_some (OfModel.by_option m) = option_some m
model_some (OfModel.by_10 i f) = refl

implied_some : {market : Float} {p : OptionParams} {n : ℕ} → OfImplied market p n → eqb n none ≡ false
implied_some (OfImplied.by_5 f) = refl
implied_some (OfImplied.by_option t m) = option_some m

-- ---- the answers
price_answer : (p : OptionParams) → PriceAnswer p (pricing p)
unfolding pricing answered
price_answer p =
    by_model p (λ (n : ℕ). PriceAnswer p (answered n (decimal 0 1) (price p)))
    (λ n m. rw (model_some m) (PriceAnswer.turned_down m refl)) (λ i t. PriceAnswer.priced i t)

blank : Blank no_greeks
blank = record { delta = refl; gamma = refl; theta = refl; vega = refl; rho = refl; vanna = refl; volga = refl }

greeks_answer : (p : OptionParams) → GreeksAnswer p (sensitivities p)
unfolding sensitivities answered
greeks_answer p =
    by_model p (λ (n : ℕ). GreeksAnswer p (answered n no_greeks (greeks p)))
    (λ n m. rw (model_some m) (GreeksAnswer.turned_down m blank)) (λ i t. GreeksAnswer.found i t)

implied_answer : (market : Float) (p : OptionParams) → ImpliedAnswer market p (implied market p)
unfolding implied
implied_answer market p =
    by_implied market p
    (λ (n : ℕ). ImpliedAnswer market p
    (if eqb n none then (run_with market (λ v. price (at_volatility p v))).reply else ended (refused n (zeros 0)) over))
    (λ n m. rw (implied_some m) (ImpliedAnswer.turned_down m ((theorem.claim).blank 0))) (λ t i. ImpliedAnswer.solved t i)

implied_blank : (market : Float) (p : OptionParams) (r : Reply) → ImpliedAnswer market p r → (k : ℕ) (y : Solution) (s : Solver) → r ≡ ended (refused k y) s
    → brent.Blank y.evaluations y
implied_blank market p r (ImpliedAnswer.turned_down {n} {x} m b) k y s e =
    let same : x ≡ y = cc in
    subst (λ (z : Solution). brent.Blank z.evaluations z) same
    (record { volatility = b.volatility; error = b.error; c = b.c; c_error = b.c_error; evaluations = refl })
implied_blank market p r (ImpliedAnswer.solved t i) k y s e =
    let z = (((theorem.claim).modelled market (λ v. price (at_volatility p v))).ran.refusal e).1 in
    subst (brent.Blank y.evaluations) (sym z) ((theorem.claim).blank y.evaluations)

-- THE CLAIM
pub claim : Claim
claim =
    record {
      price_answer = price_answer;
      greeks_answer = greeks_answer;
      implied_answer = implied_answer;
      implied_blank = λ market p e. implied_blank market p (implied market p) (implied_answer market p) _ _ _ e;
      price_read = outcome_read (decimal 0 1);
      greeks_read = outcome_read no_greeks;
      implied_read = theorem.implied_read;
    }
