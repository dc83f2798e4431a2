-- The claim of specs/Claim: each field is read off what the invariant says of the last reply. Assumes nothing.
use Rattle.std.specs.Prelude.{Result, Ok, Err}
use mathlib.Core.Path.{◌≡◌, refl, sym, ap, ◌∙◌, subst}
use mathlib.Core.List.Memᴰ
use mathlib.Core.List.{List, map, Memᴰ}
use mathlib.Core.Logic.{◌⊎◌, inl, inr}
use Prim.Native.Nat.{ℕ, zero, suc, ◌+◌, ◌≤◌, ◌<◌}
use native.Mathlib.Omega.{arith}
use mathlib.Core.Bool.{Bool, true, false}
use lib.Dec.{lit≤, eqb}
use lib.ListN.{length}
use borrow.Author.Tests.{leb-true, eqb-true, le-leb}
use lib.Ieee.{Float, eq, round}
use Rattle.floats.specs.Operators.{decimal, ◌⊖◌, ◌⊗◌, ◌≺◌}
use Rattle.floats.specs.Values.{finite}
use Rattle.floats.proofs.Tests.{split, clash, and_left, and_right}
use Rattle.limits.specs.Ranges.{is_volatility}
use Rattle.limits.specs.Checks.{first}
use Rattle.limits.specs.Outcome.{Outcome, done, refused}
use Rattle.limits.specs.declared.Refusal.{Refusal}
use Rattle.limits.proofs.Refusals.{different}
use Rattle.brent.specs.declared.Points.{Points}
use Rattle.brent.specs.declared.Solver.{Solver}
use Rattle.brent.specs.declared.Answer.{Answer}
use Rattle.brent.specs.declared.Answer.TheVariants.{Ask, Ended}
use Rattle.brent.specs.declared.Solution.{Solution}
use Rattle.brent.specs.declared.Unsolved.{Unsolved}
use Rattle.brent.specs.Outcome.{Reply, asking, ended, zeros, outcome_of_implied, outcome}
use Rattle.brent.specs.Feed.{over, fresh, refuse, ask, find, is_unusable, is_unbracketed, feed_number, start, feed}
use Rattle.brent.specs.Run.{Tried, Run, try_next, feed_all, feed_with, run, run_with}
use Rattle.brent.specs.Claim.{Obtained, evaluations_of, Given, five, eleven, twelve, thirteen, Blank, AllZero, Unusable, Unbracketed, Ran}
use Rattle.brent.specs.Claim.{Modelled, OfFeed, by_21, by_11, by_12, by_13, Fed, Claim}
use Rattle.brent.proofs.Cases.{before, ready, count, usable, unusable_test, unusable_of, number_11, number_12, number_13, feed_by}
use Rattle.brent.proofs.Invariant.{Live, lower, upper, later, Good, live_in, run_good, run_in}
use Rattle.brent.proofs.Range.{In, in_at, placed_in, ready_in, advance_in}

-- ---- a reply of a run
given_below : {k n : ℕ} → Given k n → (k < 14) × (n ≤ 52)
given_below five = (lit≤ tt, lit≤ tt)
given_below (eleven a b) = (lit≤ tt, b)
given_below twelve = (lit≤ tt, lit≤ tt)
given_below thirteen = (lit≤ tt, lit≤ tt)

live_count : (market v : Float) (h : List Tried) (s : Solver) → Live market h v s
    → (s.evaluations ≡ length h) × (length h ≤ 51) × (2 ≤ length h → length h ≡ s.rounds + 1)
unfolding fresh
live_count market v h s (lower e) = (sym e, omega arith, λ l. omega arith)
live_count market v h s (upper error e k) = (sym e, omega arith, λ l. omega arith)
live_count market v h s (later r p l e k) = (sym e, omega arith, λ l. omega arith)

reply_count : (market : Float) (h : List Tried) (r : Reply) → Good market h r → (evaluations_of r ≡ length h) × (length h ≤ 52)
unfolding evaluations_of
reply_count market h (asking v s) g = let l = live_count market v h s g.1 in (l.0, omega arith)
reply_count market h (ended (done x) s) g = let l = g.2.at_most in (g.1, omega arith)
reply_count market h (ended (refused k x) s) g = (unfold zeros in ap (λ (y : Solution). y.evaluations) g.1, (given_below g.2).1)

handed_back : (s : Solver) (price : Float) → is_unusable s ≡ true → feed s price ≡ ended (refused 21 (zeros 0)) s
unfolding feed feed_number first
handed_back s price h = simp h

over_unusable : is_unusable over ≡ true
unfolding is_unusable over eq round
over_unusable = refl

ran : (market : Float) (r : Run) → Good market r.tried r.reply → ((t : Tried) → Memᴰ t r.tried → is_volatility t.at ≡ true) → Ran market r
ran market r g i =
    record {
      counted = (reply_count market r.tried r.reply g).0;
      few = (reply_count market r.tried r.reply g).1;
      rounds = λ {v} {s} e l. (live_count market v r.tried s (at e).1).2 l;
      tried_in_range = λ {t} m. i t m;
      asks_in_range = λ {v} {s} e. (live_in market v r.tried s (at e).1).0;
      points_in_range = λ {v} {x} {s} e k. in_at s.points (live_in market v r.tried s (at e).1).1 k;
      refusal = λ {number} {x} {s} e. refused_with number x (at e).1 (at e).2;
      started = λ e. (at e).3 refl;
      only_11 = λ e. (at e).4 refl;
      never_21 = λ e. let l = (given_below (at e).2).0 in omega arith;
      ends = λ {o} {s} e. ended_over o s (at e);
      after = λ {o} {s} e price. subst (λ (t : Solver). feed t price ≡ ended (refused 21 (zeros 0)) t) (sym (ended_over o s (at e)))
          (handed_back over price over_unusable);
      success = λ e. (at e).2;
    }
  where
    at : {w : Reply} → r.reply ≡ w → Good market r.tried w
    at e = subst (Good market r.tried) e g

    ended_over : (o : Outcome Solution) (s : Solver) → Good market r.tried (ended o s) → s ≡ over
    ended_over (done x) s k = k.0
    ended_over (refused n x) s k = k.0

    refused_with : (number : ℕ) (x : Solution) → x ≡ zeros (length r.tried) → Given number (length r.tried)
        → Given number x.evaluations × (x ≡ zeros x.evaluations)
    refused_with number x z k =
        let e : x.evaluations ≡ length r.tried = unfold zeros in ap (λ (y : Solution). y.evaluations) z in
        (subst (Given number) (sym e) k, z ∙ ap zeros (sym e))

-- ---- a run on the prices of a function is the run on the list of those prices
abbrev obtained : List Tried → List Float
obtained ts = map (λ (t : Tried). t.price) ts

module _ (price : Float → Float) where
  with_list : (n : ℕ) (r : Reply) → feed_with n price r ≡ feed_all (obtained (feed_with n price r).tried) r
  unfolding feed_with feed_all
  with_list zero r = refl
  with_list (suc n) (asking v s) = ap (try_next v (price v)) (with_list n (feed s (price v)))
  with_list (suc n) (ended o s) = refl

  -- while it asks, every price was fed
  still_asking : (n : ℕ) (r : Reply) (v : Float) (s : Solver) → (feed_with n price r).reply ≡ asking v s → length (feed_with n price r).tried ≡ n
  unfolding feed_with
  still_asking zero r v s e = refl
  still_asking (suc n) (asking w t) v s e = ap suc (still_asking n (feed t (price w)) v s e)
  still_asking (suc n) (ended o t) v s e = cc

  with_price : (n : ℕ) (r : Reply) (t : Tried) → Memᴰ t (feed_with n price r).tried → t.price ≡ price t.at
  unfolding feed_with
  with_price zero r t m = absurd (Memᴰ.not-nil m)
  with_price (suc n) (ended o s) t m = absurd (Memᴰ.not-nil m)
  with_price (suc n) (asking v s) t m = go (with_price n (feed s (price v)) t) (Memᴰ.cases_cons m)
    where
      go : {X : Type 0} → (X → t.price ≡ price t.at) → (t ≡ record { at = v; price = price v }) ⊎ X → t.price ≡ price t.at
      go rest (inl e) = ap (λ (u : Tried). u.price) e ∙ ap (λ (u : Tried). price u.at) (sym e)
      go rest (inr k) = rest k

  module _ (market : Float) where
    abbrev with_run : Run
    with_run = run_with market price

    as_list : with_run ≡ run market (obtained with_run.tried)
    unfolding run run_with
    as_list = with_list 52 (start market)

    with_good : Good market with_run.tried with_run.reply
    with_good = subst (λ (r : Run). Good market r.tried r.reply) (sym as_list) (run_good market (obtained with_run.tried))

    with_ran : Ran market with_run
    with_ran = ran market with_run with_good (λ t m. run_in market (obtained with_run.tried) (subst (λ (r : Run). Memᴰ t r.tried) as_list m))

    finished : (r : Reply) → with_run.reply ≡ r → (o : Outcome Solution) × (r ≡ ended o over)
    finished (asking v s) e =
        let n : length with_run.tried ≡ 52 = unfold run_with in still_asking 52 (start market) v s e in
        let l = (live_count market v with_run.tried s (subst (Good market with_run.tried) e with_good).1).1 in
        absurd (omega arith)
    finished (ended o s) e = (o, ap (ended o) (with_ran.ends e))

    priced : {t : Tried} → Memᴰ t with_run.tried → t.price ≡ price t.at
    unfolding run_with
    priced {t} m = with_price 52 (start market) t m

    error_is : {v error : Float} → Obtained market v error with_run.tried → error ≡ price v ⊖ market
    error_is k = k.less_market ∙ ap (λ (x : Float). x ⊖ market) (priced k.among)

    modelled : Modelled market price with_run
    modelled =
        record {
          ran = with_ran;
          done_with = finished with_run.reply refl;
          as_list = as_list;
          priced = priced;
          error = λ e. error_is (with_ran.success e).point;
          c_error = λ e. error_is (with_ran.success e).opposing;
        }

-- ---- a feed of any state
abbrev number_of : Reply → ℕ
number_of (asking v s) = 0
number_of (ended (done x) s) = 0
number_of (ended (refused k x) s) = k

-- what each number of an answer tells
record Told (s : Solver) (price : Float) (k : ℕ) : Type 0 where
  eleven : k ≡ 11 → finite (price ⊖ s.market) ≡ false
  twelve : k ≡ 12 → is_unbracketed s (price ⊖ s.market) ≡ true
  thirteen : k ≡ 13 → s.rounds ≡ 50

-- a refusal has one of the four numbers
abbrev Numbered : Reply → Type 0
Numbered (asking v s) = Unit
Numbered (ended (done x) s) = Unit
Numbered (ended (refused k x) s) = OfFeed k

not_14 : {k : ℕ} → OfFeed k → k ≡ 14 → ⊥
not_14 by_21 e = omega arith
not_14 by_11 e = omega arith
not_14 by_12 e = omega arith
not_14 by_13 e = omega arith

record Answers (s : Solver) (price : Float) (r : Reply) : Type 0 where
  back : number_of r ≡ 21 → (is_unusable s ≡ true) × (r ≡ ended (refused 21 (zeros 0)) s)
  left : is_unusable s ≡ false → {o : Outcome Solution} {t : Solver} → r ≡ ended o t → t ≡ over
  told : Told s price (number_of r)
  known : Numbered r

module _ (s : Solver) (price : Float) where
  tells_nothing : (k : ℕ) → (k ≡ 11 → ⊥) → (k ≡ 12 → ⊥) → (k ≡ 13 → ⊥) → Told s price k
  tells_nothing k p q r = record { eleven = λ e. absurd (p e); twelve = λ e. absurd (q e); thirteen = λ e. absurd (r e) }

  refused_answer : (k n : ℕ) → (k ≡ 21 → ⊥) → OfFeed k → Told s price k → Answers s price (refuse k n)
  unfolding refuse
  refused_answer k n p f q = record { back = λ e. absurd (p e); left = λ h e. cc; told = q; known = f }

  asked_answer : (market : Float) (p : Points) (r n : ℕ) → Answers s price (ask market p r n)
  unfolding ask
  asked_answer market p r n =
      record {
        back = λ e. absurd (omega arith);
        left = λ h e. cc;
        told = tells_nothing 0 (λ e. omega arith) (λ e. omega arith) (λ e. omega arith);
        known = tt;
      }

  found_answer : (p : Points) (n : ℕ) → Answers s price (find p n)
  unfolding find
  found_answer p n =
      record {
        back = λ e. absurd (omega arith);
        left = λ h e. cc;
        told = tells_nothing 0 (λ e. omega arith) (λ e. omega arith) (λ e. omega arith);
        known = tt;
      }

  answers : Answers s price (feed s price)
  answers =
      let n = s.evaluations + 1 in
      feed_by s price (Answers s price)
      (record {
        at_21 = λ h. record {
          back = λ e. (h, refl);
          left = λ k e. clash h k;
          told = tells_nothing 21 (λ e. omega arith) (λ e. omega arith) (λ e. omega arith);
          known = by_21;
        };
        at_11 = λ h1 h2. refused_answer 11 n (λ e. omega arith) by_11
            (record { eleven = λ e. h2; twelve = λ e. absurd (omega arith); thirteen = λ e. absurd (omega arith) });
        at_12 = λ h1 h2 h3. refused_answer 12 n (λ e. omega arith) by_12
            (record { eleven = λ e. absurd (omega arith); twelve = λ e. h3; thirteen = λ e. absurd (omega arith) });
        at_13 = λ h1 h2 h3 h4. refused_answer 13 n (λ e. omega arith) by_13
            (record {
              eleven = λ e. absurd (omega arith);
              twelve = λ e. absurd (omega arith);
              thirteen = λ e. (let l = (usable s h1).rounds in let g = leb-true 50 s.rounds h4 in omega arith);
            });
        at_end = λ h1 h2 h3 h4 h5. asked_answer _ _ _ _;
        at_answer = λ h1 h2 h3 h4 h5 h6. found_answer _ _;
        at_round = λ h1 h2 h3 h4 h5 h6. asked_answer _ _ _ _;
      })

-- a reply that asks or answers does so in range
abbrev Ranged : Reply → Type 0
Ranged (asking v t) = (is_volatility v ≡ true) × In t.points
Ranged (ended (done x) t) = (is_volatility x.volatility ≡ true) × (is_volatility x.c ≡ true)
Ranged (ended (refused k x) t) = Unit

asked_in : (market : Float) (p : Points) (r n : ℕ) → In p → Ranged (ask market p r n)
unfolding ask
asked_in market p r n h = (h.b, h)

found_in : (p : Points) (n : ℕ) → In p → Ranged (find p n)
unfolding find
found_in p n h = (h.b, h.c)

feed_ranged : (s : Solver) (price : Float) → Ranged (feed s price)
unfolding refuse
feed_ranged s price =
    feed_by s price Ranged
    (record {
      at_21 = λ h. tt;
      at_11 = λ h1 h2. tt;
      at_12 = λ h1 h2 h3. tt;
      at_13 = λ h1 h2 h3 h4. tt;
      at_end = λ h1 h2 h3 h4 h5. asked_in s.market (before s price) s.rounds (count s price) (placed h1);
      at_answer = λ h1 h2 h3 h4 h5 h6. found_in (ready s price) (count s price) (ready_in (before s price) (placed h1));
      at_round = λ h1 h2 h3 h4 h5 h6. asked_in s.market _ (s.rounds + 1) (count s price)
          (advance_in (ready s price) (ready_in (before s price) (placed h1)) h6);
    })
  where
    placed : is_unusable s ≡ false → In (before s price)
    placed h = placed_in s.points s.evaluations (price ⊖ s.market) (usable s h).points

module _ (s : Solver) (price : Float) where
  bracket_test : Unbracketed s price → is_unbracketed s (price ⊖ s.market) ≡ true
  unfolding is_unbracketed
  bracket_test u = simp (u.second, u.above)

  unbracketed : is_unbracketed s (price ⊖ s.market) ≡ true → Unbracketed s price
  unfolding is_unbracketed
  unbracketed h =
      let one = eqb s.evaluations 1 in
      let above = decimal 0 1 ≺ s.points.fa ⊗ (price ⊖ s.market) in
      record { second = eqb-true s.evaluations 1 (and_left one above h); above = and_right one above h }

  at_11 : is_unusable s ≡ false → finite (price ⊖ s.market) ≡ false → feed s price ≡ refuse 11 (s.evaluations + 1)
  unfolding feed
  at_11 h1 h2 = simp (number_11 s price h1 h2)

  at_12 : is_unusable s ≡ false → finite (price ⊖ s.market) ≡ true → Unbracketed s price → feed s price ≡ refuse 12 (s.evaluations + 1)
  unfolding feed
  at_12 h1 h2 u = simp (number_12 s price h1 h2 (bracket_test u))

  at_13 : is_unusable s ≡ false → finite (price ⊖ s.market) ≡ true → (Unbracketed s price → ⊥) → s.rounds ≡ 50 → feed s price ≡ refuse 13 (s.evaluations + 1)
  unfolding feed
  at_13 h1 h2 u r =
      let h3 = split (is_unbracketed s (price ⊖ s.market)) (λ h. absurd (u (unbracketed h))) (λ h. h) in
      simp (number_13 s price h1 h2 h3 (le-leb 50 s.rounds (omega arith)))

fed : (s : Solver) (price : Float) → Fed s price
fed s price =
    let k = answers s price in
    record {
      when_21 = λ u. handed_back s price (unusable_test s u);
      only_21 = λ e. unusable_of s (k.back (ap number_of e)).0;
      handed_back = λ {x} {t} e. back x t (sym (k.back (ap number_of e)).1 ∙ e);
      ends = λ h e. k.left (lets_through h) e;
      asks_in_range = λ {v} {t} e. (asked e).0;
      points_in_range = λ {v} {x} {t} e p. in_at t.points (asked e).1 p;
      found_in_range = λ e. subst Ranged e (feed_ranged s price);
      never_14 = λ e. not_14 (subst Numbered e k.known) refl;
      numbers = λ e. subst Numbered e k.known;
      only_11 = λ e. k.told.eleven (ap number_of e);
      when_11 = λ h n. unfold refuse in at_11 s price (lets_through h) n;
      when_12 = λ h n u. unfold refuse in at_12 s price (lets_through h) n u;
      only_12 = λ e. unbracketed s price (k.told.twelve (ap number_of e));
      when_13 = λ h n u r. unfold refuse in at_13 s price (lets_through h) n u r;
      after_50 = λ e. k.told.thirteen (ap number_of e);
    }
  where
    asked : {v : Float} {t : Solver} → feed s price ≡ asking v t → (is_volatility v ≡ true) × In t.points
    asked e = subst Ranged e (feed_ranged s price)

    lets_through : (Unusable s → ⊥) → is_unusable s ≡ false
    lets_through h = go (is_unusable s) refl
      where
        go : (b : Bool) → is_unusable s ≡ b → is_unusable s ≡ false
        go true e = absurd (h (unusable_of s e))
        go false e = e

    back : (x : Solution) (t : Solver) → ended (refused 21 (zeros 0)) s ≡ ended (refused 21 x) t → (t ≡ s) × (x ≡ zeros 0)
    back x t e = (cc, cc)

-- ---- the reading of an answer
same_count : (n m : ℕ) → zeros n ≡ zeros m → n ≡ m
unfolding zeros
same_count n m e = ap (λ (x : Solution). x.evaluations) e

same_unsolved : (q r : Refusal) (n m : ℕ) → q ≡ r → n ≡ m
    → ◌≡◌ {A = Unsolved} (record { refusal = q; evaluations = n }) (record { refusal = r; evaluations = m })
same_unsolved q r n m e f = cc

pub implied_read : (a b : Result Solution Unsolved) → outcome_of_implied a ≡ outcome_of_implied b → a ≡ b
unfolding outcome_of_implied
implied_read (Ok x) (Ok y) e = cc
implied_read (Ok x) (Err b) e = cc
implied_read (Err a) (Ok y) e = cc
implied_read (Err a) (Err b) e =
    let r : a.refusal ≡ b.refusal = different a.refusal b.refusal (cc) in
    let n : a.evaluations ≡ b.evaluations = same_count a.evaluations b.evaluations (cc) in
    ap Err (same_unsolved a.refusal b.refusal a.evaluations b.evaluations r n)

determined : (a b : Answer) → outcome a ≡ outcome b → a ≡ b
unfolding outcome
determined (Ask v s) (Ask w t) e = cc
determined (Ask v s) (Ended x t) e = cc
determined (Ended x s) (Ask w t) e = cc
determined (Ended x s) (Ended y t) e = cc (implied_read x y (cc))

blank : (n : ℕ) → Blank n (zeros n)
unfolding zeros
blank n = record { volatility = refl; error = refl; c = refl; c_error = refl; evaluations = refl }

all_zero : AllZero over
unfolding over
all_zero =
    record { market = refl; a = refl; b = refl; c = refl; fa = refl; fb = refl; fc = refl; d = refl; e = refl; rounds = refl; evaluations = refl }

-- THE THEOREM
pub claim : Claim
claim =
    record {
      blank = blank;
      all_zero = all_zero;
      determined = determined;
      listed = λ market prices. ran market (run market prices) (run_good market prices) (λ t m. run_in market prices m);
      modelled = λ market price. modelled price market;
      fed = fed;
    }
