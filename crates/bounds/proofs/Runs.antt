-- Every price inside document 01's ranges is finite, so that no solver on the model's prices ends by 11. Assumes nothing.
use Rattle.std.specs.Prelude.{if◌then◌else◌}
use mathlib.Core.Path.{◌≡◌, refl, ap, ◌∙◌, subst}
use Prim.Native.Nat.{ℕ, ◌^◌}
use native.Mathlib.Omega.{arith}
use mathlib.Core.Bool.{Bool, true, not}
use mathlib.Core.List.{[], ◌∷◌}
use lib.Dec.{T, eqb, lit≤}
use borrow.Author.Tests.{eqb-true, not-false}
use lib.Ieee.{Float, binary64, fits}
use Rattle.floats.specs.Operators.{decimal, ◌⊖◌, ◌≺◌}
use Rattle.floats.specs.Values.{finite}
use Rattle.floats.proofs.Tests.{by, clash, and_left}
use Rattle.floats.proofs.Short.{most_finite}
use Rattle.floats.proofs.Bounds.{Bounded, bounded_more, difference_finite}
use Rattle.limits.specs.Ranges.{is_price, is_spot, is_strike, is_expiry, is_rate, is_volatility}
use Rattle.limits.specs.Checks.{first, none}
use Rattle.limits.proofs.Checks.{Rows, passes, elsewhere}
use Rattle.limits.specs.Outcome.{Outcome, done, refused, answered}
use Rattle.brent.specs.declared.Solver.{Solver}
use Rattle.brent.specs.declared.Solution.{Solution}
use Rattle.brent.specs.Outcome.{Reply, ended, zeros}
use Rattle.brent.specs.Feed.{over}
use Rattle.brent.specs.Run.{run_with}
use Rattle.brent.proofs.Theorem as brent
use Rattle.blackscholes.specs.Model.{at_volatility, price}
use Rattle.blackscholes.specs.Checks.{option_refusal, refusal, pricing}
use Rattle.blackscholes.specs.Implied.{implied_refusal, implied}
use Rattle.blackscholes.specs.declared.OptionParams.{OptionParams}
use Rattle.bounds.proofs.Prices.{price_bound}

-- ---- the checks
pub record Checked (p : OptionParams) (rest : ℕ) : Type 0 where
  pub spot : is_spot p.spot ≡ true
  pub strike : is_strike p.strike ≡ true
  pub expiry : is_expiry p.time_to_expiry ≡ true
  pub rate : is_rate p.risk_free_rate ≡ true
  pub left : rest ≡ none

-- 6 to 9
abbrev own : OptionParams → Rows
own p =
    (not (is_spot p.spot), 6) ∷ (not (is_strike p.strike), 7) ∷ (not (is_expiry p.time_to_expiry), 8) ∷ (not (is_rate p.risk_free_rate), 9) ∷ []

checked : (p : OptionParams) (rest : ℕ) → option_refusal p rest ≡ none → Checked p rest
unfolding option_refusal
checked p rest h =
    let q = passes (own p) rest refl h in
    record {
      spot = not-false _ q.0.0;
      strike = not-false _ q.0.1.0;
      expiry = not-false _ q.0.1.1.0;
      rate = not-false _ q.0.1.1.1.0;
      left = q.1;
    }

not_eleven : (p : OptionParams) → option_refusal p none ≡ 11 → ⊥
unfolding option_refusal
not_eleven p h = omega (arith, elsewhere 11 (own p) none refl h)

-- ---- the prices
pub price_at_most : (p : OptionParams) → refusal p ≡ none → Bounded 1490 (price p)
unfolding refusal
price_at_most p h =
    let c = checked p (first (not (is_volatility p.volatility)) 10 none) h in
    price_bound p c.spot c.strike c.expiry c.rate
    (not-false _ (passes ((not (is_volatility p.volatility), 10) ∷ []) none refl c.left).0.0)

pub error_finite : (x market : Float) → Bounded 1490 x → T (fits binary64 market) → is_price market ≡ true → finite (x ⊖ market) ≡ true
unfolding is_price
error_finite x market b f h =
    difference_finite x market (bounded_more 1490 2034 x (lit≤ tt) b) (and_left (finite market) (decimal 0 1 ≺ market) h) f

pub finite_price : (p : OptionParams) → refusal p ≡ none → finite (price p) ≡ true
finite_price p h = most_finite (2 ^ 1490) (price p) (price_at_most p h)

pub finite_answer : (p : OptionParams) (v : Float) → pricing p ≡ done v → finite v ≡ true
unfolding pricing answered
finite_answer p v h =
    by (λ (o : Outcome Float). o ≡ done v → finite v ≡ true) (λ (t : Bool). if t then done (price p) else refused (refusal p) (decimal 0 1))
    (eqb (refusal p) none)
    (λ t e. subst (λ (x : Float). finite x ≡ true) (same (price p) v e) (finite_price p (eqb-true (refusal p) none t)))
    (λ t e. cc)
    h
  where
    same : (x y : Float) → done x ≡ done y → x ≡ y
    same x y e = cc

-- ---- the solver: every price tried is the model's, at a volatility in range
module _ (p : OptionParams) (market : Float) (f : T (fits binary64 market)) where
  abbrev model : Float → Float
  model v = price (at_volatility p v)

  pub run_never_11 : Checked p none → is_price market ≡ true → {x : Solution} {s : Solver} → (run_with market model).reply ≡ ended (refused 11 x) s → ⊥
  run_never_11 c h e =
      let m = (brent.claim).modelled market model in
      let n = m.ran.only_11 e in
      let v = n.point.at in
      clash
      (ap (λ (x : Float). finite (x ⊖ market)) (m.priced n.among) ∙ error_finite (model v) market
      (price_bound (at_volatility p v) c.spot c.strike c.expiry c.rate (m.ran.tried_in_range n.among)) f h)
      n.not_finite

  no_run : implied_refusal market p ≡ none → {x : Solution} {s : Solver} → (run_with market model).reply ≡ ended (refused 11 x) s → ⊥
  unfolding implied_refusal
  no_run h = let a = passes ((not (is_price market), 5) ∷ []) (option_refusal p none) refl h in run_never_11 (checked p none a.1) (not-false _ a.0.0)

  no_check : {x : Solution} {s : Solver} → ended (refused (implied_refusal market p) (zeros 0)) over ≡ ended (refused 11 x) s → ⊥
  unfolding implied_refusal
  no_check e =
      let n : implied_refusal market p ≡ 11 = cc in
      not_eleven p (elsewhere 11 ((not (is_price market), 5) ∷ []) (option_refusal p none) refl n)

  pub never_11 : {x : Solution} {s : Solver} → implied market p ≡ ended (refused 11 x) s → ⊥
  unfolding implied
  never_11 {x} {s} e =
      by (λ (r : Reply). r ≡ ended (refused 11 x) s → ⊥)
      (λ (t : Bool). if t then (run_with market model).reply else ended (refused (implied_refusal market p) (zeros 0)) over)
      (eqb (implied_refusal market p) none)
      (λ t. no_run (eqb-true (implied_refusal market p) none t))
      (λ t. no_check) e
