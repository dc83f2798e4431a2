-- A feed is one of seven answers, each with the tests that led to it: what holds of each holds of the feed. And 21's test holds for its four reasons.
-- Assumes nothing.
use Rattle.std.specs.Prelude.{if◌then◌else◌}
use mathlib.Core.Path.{◌≡◌, refl, sym, subst}
use Prim.Native.Nat.{ℕ, ◌+◌, ◌≤◌}
use native.Mathlib.Omega.{arith}
use mathlib.Core.Bool.{Bool, true, false, not, ◌&&◌, ◌||◌, true≢false}
use lib.Dec.{leb, ltb, eqb}
use borrow.Author.Tests.{ltb-true, ltb-false}
use lib.Ieee.{Float, eq}
use Rattle.floats.specs.Operators.{decimal, ◌⊖◌}
use Rattle.floats.specs.Values.{finite}
use Rattle.floats.proofs.Tests.{by, split, clash, or_true}
use Rattle.limits.specs.Ranges.{is_volatility}
use Rattle.limits.specs.Checks.{first, none}
use Rattle.limits.specs.Outcome.{refused}
use Rattle.brent.specs.declared.Points.{Points}
use Rattle.brent.specs.declared.Solver.{Solver}
use Rattle.brent.specs.Brent.{reset, swap, converged, advance}
use Rattle.brent.specs.Outcome.{Reply, ended, zeros}
use Rattle.brent.specs.Feed.{most_rounds, most_evaluations, refuse, ask, find, placed, in_range, is_unusable, is_unbracketed, feed_number, feed}
use Rattle.brent.specs.Claim.{last, best, opposing, Unusable, after_its_end, many_rounds, many_evaluations, out_of_range}
use Rattle.brent.proofs.Range.{In, in_of, in_at}

-- what 21's test lets through: no ended solver, at most 50 rounds and 52 evaluations, and points in range
pub record Usable (s : Solver) : Type 0 where
  pub going : eq s.market (decimal 0 1) ≡ false
  pub rounds : s.rounds ≤ 50
  pub evaluations : s.evaluations ≤ 52
  pub points : In s.points

-- each reason is enough
ended_turned : (s : Solver) → eq s.market (decimal 0 1) ≡ true → is_unusable s ≡ true
unfolding is_unusable
ended_turned s h = simp h

rounds_turned : (s : Solver) → ltb most_rounds s.rounds ≡ true → is_unusable s ≡ true
unfolding is_unusable
rounds_turned s h = simp (h, or_true)

evaluations_turned : (s : Solver) → ltb most_evaluations s.evaluations ≡ true → is_unusable s ≡ true
unfolding is_unusable
evaluations_turned s h = simp (h, or_true)

range_turned : (s : Solver) → in_range s.points ≡ false → is_unusable s ≡ true
unfolding is_unusable
range_turned s h = simp (h, or_true)

pub usable : (s : Solver) → is_unusable s ≡ false → Usable s
usable s h =
    record {
      going = split (eq s.market (decimal 0 1)) (λ e. clash (ended_turned s e) h) (λ e. e);
      rounds = ltb-false 50 s.rounds (split (ltb 50 s.rounds) (λ e. clash (rounds_turned s e) h) (λ e. e));
      evaluations = ltb-false 52 s.evaluations (split (ltb 52 s.evaluations) (λ e. clash (evaluations_turned s e) h) (λ e. e));
      points = split (in_range s.points) (in_of s.points) (λ e. clash (range_turned s e) h);
    }

not_usable : (s : Solver) → Unusable s → Usable s → ⊥
not_usable s (after_its_end e) u = clash e u.going
not_usable s (many_rounds l) u = let r = u.rounds in omega arith
not_usable s (many_evaluations l) u = let n = u.evaluations in omega arith
not_usable s (out_of_range x f) u = clash (in_at s.points u.points x) f

pub unusable_test : (s : Solver) → Unusable s → is_unusable s ≡ true
unusable_test s u = go (is_unusable s) refl
  where
    go : (b : Bool) → is_unusable s ≡ b → is_unusable s ≡ true
    go true e = e
    go false e = absurd (not_usable s u (usable s e))

pub unusable_of : (s : Solver) → is_unusable s ≡ true → Unusable s
unfolding is_unusable in_range
unusable_of s h = go _ _ _ _ _ _ refl refl refl refl refl refl h
  where
    go : (over long many a b c : Bool) → eq s.market (decimal 0 1) ≡ over → ltb 50 s.rounds ≡ long → ltb 52 s.evaluations ≡ many
        → is_volatility s.points.a ≡ a → is_volatility s.points.b ≡ b → is_volatility s.points.c ≡ c →
        (over || long || many || not (a && b && c)) ≡ true → Unusable s
    go true long many a b c eo el em ea eb ec h = after_its_end eo
    go false true many a b c eo el em ea eb ec h = many_rounds (ltb-true 50 s.rounds el)
    go false false true a b c eo el em ea eb ec h = many_evaluations (ltb-true 52 s.evaluations em)
    go false false false false b c eo el em ea eb ec h = out_of_range last ea
    go false false false true false c eo el em ea eb ec h = out_of_range best eb
    go false false false true true false eo el em ea eb ec h = out_of_range opposing ec
    go false false false true true true eo el em ea eb ec h = absurd (true≢false (sym h))

module _ (s : Solver) (price : Float) where
  abbrev pub error : Float
  error = price ⊖ s.market

  abbrev pub before : Points
  before = placed s.points s.evaluations error

  abbrev pub ready : Points
  ready = swap (reset before)

  abbrev pub count : ℕ
  count = s.evaluations + 1

  pub record Cases (P : Reply → Type 0) : Type 0 where
    pub at_21 : is_unusable s ≡ true → P (ended (refused 21 (zeros 0)) s)
    pub at_11 : is_unusable s ≡ false → finite error ≡ false → P (refuse 11 count)
    pub at_12 : is_unusable s ≡ false → finite error ≡ true → is_unbracketed s error ≡ true → P (refuse 12 count)
    pub at_13 : is_unusable s ≡ false → finite error ≡ true → is_unbracketed s error ≡ false → leb 50 s.rounds ≡ true → P (refuse 13 count)
    pub at_end : is_unusable s ≡ false → finite error ≡ true → is_unbracketed s error ≡ false → leb 50 s.rounds ≡ false → eqb s.evaluations 0 ≡ true
        → P (ask s.market before s.rounds count)
    pub at_answer : is_unusable s ≡ false → finite error ≡ true → is_unbracketed s error ≡ false → leb 50 s.rounds ≡ false → eqb s.evaluations 0 ≡ false
        → converged ready ≡ true → P (find ready count)
    pub at_round : is_unusable s ≡ false → finite error ≡ true → is_unbracketed s error ≡ false → leb 50 s.rounds ≡ false → eqb s.evaluations 0 ≡ false
        → converged ready ≡ false → P (ask s.market (advance ready) (s.rounds + 1) count)

  abbrev reply : ℕ → Reply
  reply k =
      if eqb k 21 then (ended (refused 21 (zeros 0)) s)
      else (if not (eqb k none) then (refuse k count)
      else (if eqb s.evaluations 0 then (ask s.market before s.rounds count)
      else (if converged ready then (find ready count)
      else (ask s.market (advance ready) (s.rounds + 1) count))))

  -- the number that the tests give
  number_21 : is_unusable s ≡ true → feed_number s error ≡ 21
  unfolding feed_number first
  number_21 h1 = simp h1

  pub number_11 : is_unusable s ≡ false → finite error ≡ false → feed_number s error ≡ 11
  unfolding feed_number first
  number_11 h1 h2 = simp (h1, h2)

  pub number_12 : is_unusable s ≡ false → finite error ≡ true → is_unbracketed s error ≡ true → feed_number s error ≡ 12
  unfolding feed_number first
  number_12 h1 h2 h3 = simp (h1, h2, h3)

  pub number_13 : is_unusable s ≡ false → finite error ≡ true → is_unbracketed s error ≡ false → leb 50 s.rounds ≡ true → feed_number s error ≡ 13
  unfolding feed_number first
  number_13 h1 h2 h3 h4 = simp (h1, h2, h3, h4)

  no_number : is_unusable s ≡ false → finite error ≡ true → is_unbracketed s error ≡ false → leb 50 s.rounds ≡ false → feed_number s error ≡ none
  unfolding feed_number first
  no_number h1 h2 h3 h4 = simp (h1, h2, h3, h4)

  pub feed_by : (P : Reply → Type 0) → Cases P → P (feed s price)
  feed_by P k =
      split (is_unusable s) (λ h1. at 21 (number_21 h1) (k.at_21 h1))
      (λ h1. split (finite error)
      (λ h2. split (is_unbracketed s error) (λ h3. at 12 (number_12 h1 h2 h3) (k.at_12 h1 h2 h3))
      (λ h3. split (leb 50 s.rounds) (λ h4. at 13 (number_13 h1 h2 h3 h4) (k.at_13 h1 h2 h3 h4))
      (λ h4. at none (no_number h1 h2 h3 h4) (round h1 h2 h3 h4))))
      (λ h2. at 11 (number_11 h1 h2) (k.at_11 h1 h2)))
    where
      at : (n : ℕ) → feed_number s error ≡ n → P (reply n) → P (feed s price)
      at n e p = unfold feed in subst (λ (m : ℕ). P (reply m)) (sym e) p

      round : is_unusable s ≡ false → finite error ≡ true → is_unbracketed s error ≡ false → leb 50 s.rounds ≡ false → P (reply none)
      round h1 h2 h3 h4 =
          by P (λ (b : Bool). if b then (ask s.market before s.rounds count) else
          (if converged ready then (find ready count) else (ask s.market (advance ready) (s.rounds + 1) count))) (eqb s.evaluations 0)
          (k.at_end h1 h2 h3 h4)
          (λ h5. by P (λ (b : Bool). if b then (find ready count) else (ask s.market (advance ready) (s.rounds + 1) count)) (converged ready)
          (k.at_answer h1 h2 h3 h4 h5) (k.at_round h1 h2 h3 h4 h5))
