-- What document 01 says of the solver, a field for each sentence: of every run from a fresh solver, "whatever the prices", of a run on the prices of a
-- function, and of every feed, whatever the state.
use Rattle.std.specs.Prelude.{ℕ, ◌+◌, ◌≤◌, ◌<◌, ◌≡◌, Bool, true, false, not, ◌&&◌, length, Float}
use mathlib.Core.List.{List, Memᴰ, map}
use Rattle.std.specs.Float.Ieee.{eq}
use Rattle.floats.specs.Operators.{decimal, ◌⊖◌, ◌⊗◌, ◌≺◌}
use Rattle.floats.specs.Values.{magnitude, finite}
use Rattle.floats.specs.Wholes.{units_of, distance}
use Rattle.limits.specs.Ranges.{is_price, is_volatility}
use Rattle.limits.specs.Outcome.{Outcome, done, refused}
use Rattle.brent.specs.declared.Points.{Points}
use Rattle.brent.specs.declared.Solver.{Solver}
use Rattle.brent.specs.declared.Answer.{Answer}
use Rattle.brent.specs.declared.Solution.{Solution}
use Rattle.brent.specs.Outcome.{Reply, asking, ended, zeros, outcome}
use Rattle.brent.specs.Feed.{over, feed}
use Rattle.brent.specs.Run.{Tried, Run, run, run_with}

-- "Two tried points bracket the market price when their errors are not both above 0 nor both below."
unfoldable pub opposed : Float → Float → Bool
opposed x y = not (decimal 0 1 ≺ x && decimal 0 1 ≺ y) && not (x ≺ decimal 0 1 && y ≺ decimal 0 1)

-- The point v was tried: its price was obtained, and less the market price it is the error.
pub record Obtained (market v error : Float) (tried : List Tried) : Type 0 where
  pub price : Float
  pub among : Memᴰ (record { at = v; price = price }) tried
  pub less_market : error ≡ price ⊖ market

-- "Success means |error| < 0.000001, or the two errors are not both above 0 nor both below, and the points differ by at most 0.00000101."
-- "Exact comparisons read a finite f64 as a whole number over 2^1074."
pub data Near (x : Solution) : Type 0 where
  small : magnitude x.error ≺ decimal 1 1000000 ≡ true → Near x
  bracket : opposed x.error x.c_error ≡ true → distance x.volatility x.c ≤ units_of (decimal 101 100000000) → Near x

pub record Success (market : Float) (x : Solution) (tried : List Tried) : Type 0 where
  pub near : Near x
  -- "Both points were tried: their prices were obtained."
  pub point : Obtained market x.volatility x.error tried
  pub opposing : Obtained market x.c x.c_error tried
  -- the answer lies in range, and no error was refused by 11
  pub in_range : is_volatility x.volatility ≡ true
  pub finite_volatility : finite x.volatility ≡ true
  pub finite_error : finite x.error ≡ true
  pub finite_c : finite x.c ≡ true
  pub finite_c_error : finite x.c_error ≡ true
  -- "2 to 51 on success"
  pub at_least : 2 ≤ x.evaluations
  pub at_most : x.evaluations ≤ 51

-- The evaluations that a reply reports.
unfoldable pub evaluations_of : Reply → ℕ
evaluations_of (asking v s) = s.evaluations
evaluations_of (ended (done x) s) = x.evaluations
evaluations_of (ended (refused number x) s) = x.evaluations

-- The evaluations that may come with a number: 5 is met before any price, 11 at any, 12 at the second end. 13 comes when the two ends and 50
-- rounds have each had their price. No other number comes in a run: 21 never.
pub data Given : ℕ → ℕ → Type 0 where
  five : Given 5 0
  eleven : {n : ℕ} → 1 ≤ n → n ≤ 52 → Given 11 n
  twelve : Given 12 2
  thirteen : Given 13 (52)

-- "A refusal's value fields are 0.0 and its own counts 0, except all the evaluations made": n of them.
pub record Blank (n : ℕ) (x : Solution) : Type 0 where
  pub volatility : x.volatility ≡ decimal 0 1
  pub error : x.error ≡ decimal 0 1
  pub c : x.c ≡ decimal 0 1
  pub c_error : x.c_error ≡ decimal 0 1
  pub evaluations : x.evaluations ≡ n

-- 11: "A price minus the market price is not finite in the solver."
pub record NotFinite (market : Float) (tried : List Tried) : Type 0 where
  pub point : Tried
  pub among : Memᴰ point tried
  pub not_finite : finite (point.price ⊖ market) ≡ false

-- The points that a state holds.
pub data PointOf (p : Points) : Float → Type 0 where
  last : PointOf p p.a
  best : PointOf p p.b
  opposing : PointOf p p.c

-- 21: "A solver is fed after it ended, or its state holds more than 50 rounds or 52 evaluations"; and S-10: "a fed state that holds a point not in that
-- range." An ended solver is told by its market price.
pub data Unusable (s : Solver) : Type 0 where
  after_its_end : eq s.market (decimal 0 1) ≡ true → Unusable s
  many_rounds : 50 < s.rounds → Unusable s
  many_evaluations : 52 < s.evaluations → Unusable s
  out_of_range : {x : Float} → PointOf s.points x → is_volatility x ≡ false → Unusable s

-- "An ended state's numbers are all 0."
pub record AllZero (s : Solver) : Type 0 where
  pub market : s.market ≡ decimal 0 1
  pub a : s.points.a ≡ decimal 0 1
  pub b : s.points.b ≡ decimal 0 1
  pub c : s.points.c ≡ decimal 0 1
  pub fa : s.points.fa ≡ decimal 0 1
  pub fb : s.points.fb ≡ decimal 0 1
  pub fc : s.points.fc ≡ decimal 0 1
  pub d : s.points.d ≡ decimal 0 1
  pub e : s.points.e ≡ decimal 0 1
  pub rounds : s.rounds ≡ 0
  pub evaluations : s.evaluations ≡ 0

-- Of every run from a fresh solver.
pub record Ran (market : Float) (r : Run) : Type 0 where
  -- "An evaluation is one price obtained .. 2 for the ends, then one a round", and never more than 52.
  pub counted : evaluations_of r.reply ≡ length r.tried
  pub few : length r.tried ≤ 52
  pub rounds : {v : Float} {s : Solver} → r.reply ≡ asking v s → 2 ≤ length r.tried → length r.tried ≡ s.rounds + 1
  -- S-10: "from a fresh solver, for every list of finite prices fed to it, each point it asks for lies in 0.000001 to 10". Of every list: a price that is
  -- not finite ends the run by 11. Every point tried, the one asked for last, and the points of the state that asks.
  pub tried_in_range : {t : Tried} → Memᴰ t r.tried → is_volatility t.at ≡ true
  pub asks_in_range : {v : Float} {s : Solver} → r.reply ≡ asking v s → is_volatility v ≡ true
  pub points_in_range : {v x : Float} {s : Solver} → r.reply ≡ asking v s → PointOf s.points x → is_volatility x ≡ true
  -- Each refusal comes with its evaluations, its values 0.0; 5 at the start, where the market price is none.
  pub refusal : {number : ℕ} {x : Solution} {s : Solver} → r.reply ≡ ended (refused number x) s → Given number x.evaluations × (x ≡ zeros x.evaluations)
  pub started : {x : Solution} {s : Solver} → r.reply ≡ ended (refused 5 x) s → is_price market ≡ false
  pub only_11 : {x : Solution} {s : Solver} → r.reply ≡ ended (refused 11 x) s → NotFinite market r.tried
  pub never_21 : {x : Solution} {s : Solver} → r.reply ≡ ended (refused 21 x) s → ⊥
  -- "Success and 11 to 14 end it, as does 5 at the start; an ended state's numbers are all 0" (14 left with S-10): fed again, it answers 21 and is
  -- handed back.
  pub ends : {o : Outcome Solution} {s : Solver} → r.reply ≡ ended o s → s ≡ over
  pub after : {o : Outcome Solution} {s : Solver} → r.reply ≡ ended o s → (price : Float) → feed s price ≡ ended (refused 21 (zeros 0)) s
  pub success : {x : Solution} {s : Solver} → r.reply ≡ ended (done x) s → Success market x r.tried

-- Of a run on the prices of a function: 52 are enough, and every price tried is the function's.
pub record Modelled (market : Float) (price : Float → Float) (r : Run) : Type 0 where
  pub ran : Ran market r
  pub done_with : (o : Outcome Solution) × (r.reply ≡ ended o over)
  pub as_list : r ≡ run market (map (λ (t : Tried). t.price) r.tried)
  pub priced : {t : Tried} → Memᴰ t r.tried → t.price ≡ price t.at
  pub error : {x : Solution} {s : Solver} → r.reply ≡ ended (done x) s → x.error ≡ price x.volatility ⊖ market
  pub c_error : {x : Solution} {s : Solver} → r.reply ≡ ended (done x) s → x.c_error ≡ price x.c ⊖ market

-- 12: "The solver's two end errors have a product above 0." The first end's is held at a.
pub record Unbracketed (s : Solver) (price : Float) : Type 0 where
  pub second : s.evaluations ≡ 1
  pub above : decimal 0 1 ≺ s.points.fa ⊗ (price ⊖ s.market) ≡ true

-- The numbers of a feed: "checks are .. 21, 11, 12, 13, 14", without the last.
pub data OfFeed : ℕ → Type 0 where
  by_21 : OfFeed 21
  by_11 : OfFeed 11
  by_12 : OfFeed 12
  by_13 : OfFeed 13

-- Of a feed, whatever the state.
pub record Fed (s : Solver) (price : Float) : Type 0 where
  -- 21 is for a state that cannot be used and for no other, "and 21 hands a state back unaltered"
  pub when_21 : Unusable s → feed s price ≡ ended (refused 21 (zeros 0)) s
  pub only_21 : {x : Solution} {t : Solver} → feed s price ≡ ended (refused 21 x) t → Unusable s
  pub handed_back : {x : Solution} {t : Solver} → feed s price ≡ ended (refused 21 x) t → (t ≡ s) × (x ≡ zeros 0)
  -- any other end leaves nothing but zeros
  pub ends : {o : Outcome Solution} {t : Solver} → (Unusable s → ⊥) → feed s price ≡ ended o t → t ≡ over
  -- a state that 21 does not turn down asks and answers in range, also where no start made it: 14 has no occasion, and is not given
  pub asks_in_range : {v : Float} {t : Solver} → feed s price ≡ asking v t → is_volatility v ≡ true
  pub points_in_range : {v x : Float} {t : Solver} → feed s price ≡ asking v t → PointOf t.points x → is_volatility x ≡ true
  pub found_in_range : {x : Solution} {t : Solver} → feed s price ≡ ended (done x) t → (is_volatility x.volatility ≡ true) × (is_volatility x.c ≡ true)
  pub never_14 : {x : Solution} {t : Solver} → feed s price ≡ ended (refused 14 x) t → ⊥
  -- no other number comes, and each of the four has its own occasion
  pub numbers : {number : ℕ} {x : Solution} {t : Solver} → feed s price ≡ ended (refused number x) t → OfFeed number
  -- 11 where the error is not finite, whatever 12 and 13 would say, and nowhere else
  pub when_11 : (Unusable s → ⊥) → finite (price ⊖ s.market) ≡ false → feed s price ≡ ended (refused 11 (zeros (s.evaluations + 1))) over
  pub only_11 : {x : Solution} {t : Solver} → feed s price ≡ ended (refused 11 x) t → finite (price ⊖ s.market) ≡ false
  -- 12 where the price is the second end's and "the two end errors have a product above 0", and nowhere else
  pub when_12 : (Unusable s → ⊥) → finite (price ⊖ s.market) ≡ true → Unbracketed s price
      → feed s price ≡ ended (refused 12 (zeros (s.evaluations + 1))) over
  pub only_12 : {x : Solution} {t : Solver} → feed s price ≡ ended (refused 12 x) t → Unbracketed s price
  -- 13 where 50 rounds are used, and nowhere else
  pub when_13 : (Unusable s → ⊥) → finite (price ⊖ s.market) ≡ true → (Unbracketed s price → ⊥) → s.rounds ≡ 50
      → feed s price ≡ ended (refused 13 (zeros (s.evaluations + 1))) over
  pub after_50 : {x : Solution} {t : Solver} → feed s price ≡ ended (refused 13 x) t → s.rounds ≡ 50

pub record Claim : Type 0 where
  pub blank : (n : ℕ) → Blank n (zeros n)
  pub all_zero : AllZero over
  -- Nothing of an answer is lost in its reading.
  pub determined : (a b : Answer) → outcome a ≡ outcome b → a ≡ b
  pub listed : (market : Float) (prices : List Float) → Ran market (run market prices)
  pub modelled : (market : Float) (price : Float → Float) → Modelled market price (run_with market price)
  pub fed : (s : Solver) (price : Float) → Fed s price
