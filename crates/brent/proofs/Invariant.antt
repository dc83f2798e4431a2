-- What a solver fed from its start knows, whatever the prices: which points were tried with which errors, that b's error and c's oppose each other, that the
-- points lie in range, and how many prices it got. Success and each refusal say what the claim says. Assumes nothing.
use Rattle.std.specs.Prelude.{if◌then◌else◌}
use mathlib.Core.Path.{◌≡◌, refl, sym, ap, ◌∙◌, subst}
use mathlib.Core.Logic.{◌⊎◌, inl, inr}
use mathlib.Core.List.Memᴰ
use mathlib.Core.List.{List, [], ◌∷◌, ◌++◌, append-nil, append_assoc, Memᴰ}
use Prim.Native.Nat.{ℕ, ◌+◌, ◌≤◌, ◌<◌, zero-le}
use native.Mathlib.Omega.{arith}
use mathlib.Core.Bool.{Bool, true, false, not, ◌&&◌, true≢false}
use lib.Dec.{T, ltb, leb, eqb, lit≤, ltb→lt}
use lib.ListN.{length, length-append}
use borrow.Author.Tests.{leb-true, leb-false, eqb-true, ne_eqb, le-ltb}
use lib.Ieee.{Float, binary64, eq, le, round, mul, fits}
use lib.Ieee.Fits.{add-fits, round-fits}
use lib.Ieee.Positive.{positive}
use Rattle.floats.specs.Operators.{◌⊖◌, ◌⊗◌, ◌≺◌, ◌≼◌}
use Rattle.floats.specs.Values.{magnitude, finite}
use Rattle.floats.proofs.Tests.{by, clash, and_left, and_right, or_left, or_right_false}
use Rattle.floats.proofs.Signs.{O, is_zero, positive_not_zero, positive_of_lt}
use Rattle.floats.proofs.Less.{lt_turns}
use Rattle.floats.proofs.Rounding.{mul_commutes}
use Rattle.floats.proofs.Products.{Opposed, opposed_turns, opposed_like, opposed_of_product, alike_of_product}
use Rattle.limits.proofs.Ranges.{volatility_finite}
use Rattle.limits.specs.Ranges.{within, is_price, is_volatility, lowest_volatility, highest_volatility}
use Rattle.limits.specs.Outcome.{done, refused}
use Rattle.brent.specs.declared.Points.{Points}
use Rattle.brent.specs.declared.Solver.{Solver}
use Rattle.brent.specs.Brent.{TOL, reset, swap, tolerance, middle, converged, advance}
use Rattle.brent.specs.Outcome.{Reply, asking, ended, zeros}
use Rattle.brent.specs.Feed.{over, fresh, refuse, ask, solution, find, start, placed, is_unusable, is_unbracketed, feed}
use Rattle.brent.specs.Run.{Tried, feed_all, run}
use Rattle.brent.specs.Claim.{opposed, Obtained, Near, small, bracket, Success, Given, five, eleven, twelve, thirteen, NotFinite}
use Rattle.brent.proofs.Near.{near}
use Rattle.brent.proofs.Range.{In, of_in, placed_in, ready_in, advance_in}
use Rattle.brent.proofs.Cases.{feed_by}

-- ---- a point that was tried
pub record Known (market : Float) (h : List Tried) (v error : Float) : Type 0 where
  pub obtained : Obtained market v error h
  pub finite_error : finite error ≡ true
  pub fit : T (fits binary64 v)

known_more : {market : Float} {h : List Tried} {v error : Float} (t : List Tried) → Known market h v error → Known market (h ++ t) v error
known_more t k = record {
  obtained =
      record { price = k.obtained.price; among = Memᴰ.append_left t k.obtained.among; less_market = k.obtained.less_market };
  finite_error =
      k.finite_error;
  fit = k.fit;
}

-- ---- the points of a round, before c is set, once it is, and once the two are swapped
pub record Before (market : Float) (h : List Tried) (p : Points) : Type 0 where
  pub ka : Known market h p.a p.fa
  pub kb : Known market h p.b p.fb
  pub kc : Known market h p.c p.fc
  pub sides : O ≺ p.fb ⊗ p.fc ≡ true → Opposed p.fb p.fa

record Set (market : Float) (h : List Tried) (p : Points) : Type 0 where
  kb : Known market h p.b p.fb
  kc : Known market h p.c p.fc
  sides : Opposed p.fb p.fc ⊎ (O ≺ p.fb ⊗ p.fc ≡ false)

pub record Ready (market : Float) (h : List Tried) (p : Points) : Type 0 where
  pub kb : Known market h p.b p.fb
  pub kc : Known market h p.c p.fc
  pub sides : magnitude p.fb ≺ TOL ≡ false → Opposed p.fb p.fc

TOL_positive : T (positive TOL)
unfolding round
TOL_positive = tt

square_positive : T (positive (TOL ⊗ TOL))
unfolding round mul
square_positive = tt

module _ (market : Float) (h : List Tried) where
  reset_known : (p : Points) → Before market h p → Set market h (reset p)
  unfolding reset
  reset_known p k =
      by (Set market h) (λ (t : Bool). if t then
      (record { a = p.a; b = p.b; c = p.a; fa = p.fa; fb = p.fb; fc = p.fa; d = p.b ⊖ p.a; e = p.b ⊖ p.a }) else p) (O ≺ p.fb ⊗ p.fc)
      (λ t. record { kb = k.kb; kc = k.ka; sides = inl (k.sides t) })
      (λ t. record { kb = k.kb; kc = k.kc; sides = inr t })

  -- the smaller error is b's: where it is not under the tolerance, a product not above 0 means that the two oppose each other
  ordered : (x y : Float) → finite x ≡ true → finite y ≡ true → Opposed x y ⊎ (O ≺ x ⊗ y ≡ false) → magnitude y ≺ magnitude x ≡ false
      → magnitude x ≺ TOL ≡ false → Opposed x y
  ordered x y f g (inl o) k t = o
  ordered x y f g (inr z) k t = opposed_of_product TOL x y TOL_positive square_positive f g z t k

  turned : (x y : Float) → Opposed x y ⊎ (O ≺ x ⊗ y ≡ false) → Opposed y x ⊎ (O ≺ y ⊗ x ≡ false)
  turned x y (inl o) = inl (opposed_turns x y o)
  turned x y (inr z) = inr (rw (mul_commutes y x) z)

  swap_known : (p : Points) → Set market h p → Ready market h (swap p)
  unfolding swap
  swap_known p k =
      by (Ready market h) (λ (t : Bool). if t then (record { a = p.b; b = p.c; c = p.b; fa = p.fb; fb = p.fc; fc = p.fb; d = p.d; e = p.e }) else p)
      (magnitude p.fc ≺ magnitude p.fb)
      (λ t. record {
        kb = k.kc;
        kc = k.kb;
        sides = ordered p.fc p.fb k.kc.finite_error k.kb.finite_error (turned p.fb p.fc k.sides)
            (lt_turns (magnitude p.fc) (magnitude p.fb) t);
      })
      (λ t. record { kb = k.kb; kc = k.kc; sides = ordered p.fb p.fc k.kb.finite_error k.kc.finite_error k.sides t })

-- ---- a live solver, by the evaluations made: at the lower end, at the upper, or in a round
pub record Later (market : Float) (h : List Tried) (p : Points) : Type 0 where
  pub ka : Known market h p.a p.fa
  pub kc : Known market h p.c p.fc
  pub sides : Opposed p.fa p.fc
  pub fit : T (fits binary64 p.b)
  pub inside : In p

-- once the price at the lower end is known
abbrev pub upper_state : Float → Float → Solver
upper_state market error =
    record {
      market = market;
      points =
          record { a = lowest_volatility; b = highest_volatility; c = lowest_volatility; fa = error; fb = O; fc = O; d = O; e = O };
      rounds = 0;
      evaluations = 1;
    }

pub data Live (market : Float) (h : List Tried) : Float → Solver → Type 0 where
  lower : length h ≡ 0 → Live market h lowest_volatility (fresh market)
  upper : (error : Float) → length h ≡ 1 → Known market h lowest_volatility error → Live market h highest_volatility (upper_state market error)
  later : (r : ℕ) (p : Points) → r < 50 → length h ≡ r + 2 → Later market h p
      → Live market h p.b (record { market = market; points = p; rounds = r + 1; evaluations = r + 2 })

abbrev pub Good : Float → List Tried → Reply → Type 0
Good market h (asking v s) = (is_price market ≡ true) × Live market h v s
Good market h (ended (done x) s) = (s ≡ over) × (x.evaluations ≡ length h) × Success market x h
Good market h (ended (refused k x) s) = (s ≡ over) × (x ≡ zeros (length h)) × Given k (length h) × (k ≡ 5 → is_price market ≡ false) ×
    (k ≡ 11 → NotFinite market h)

-- ---- a market price is not 0.0
price_not_zero : (x : Float) → is_price x ≡ true → eq x O ≡ false
unfolding is_price
price_not_zero x h = go (eq x O) refl
  where
    go : (b : Bool) → eq x O ≡ b → eq x O ≡ false
    go true e = absurd (positive_not_zero x (positive_of_lt x (and_left (finite x) (O ≺ x) h) (and_right (finite x) (O ≺ x) h)) (is_zero x e))
    go false e = e

not_turned_down : (s : Solver) → is_price s.market ≡ true → s.rounds ≤ 50 → s.evaluations ≤ 52 → In s.points → is_unusable s ≡ false
unfolding is_unusable
not_turned_down s m r n i = simp (price_not_zero s.market m, le-ltb 50 s.rounds r, le-ltb 52 s.evaluations n, of_in s.points i)

-- ---- what follows a round's tests
opposed_test : (x y : Float) → Opposed x y → opposed x y ≡ true
unfolding opposed
opposed_test x y o = go (O ≺ x) (O ≺ y) (x ≺ O) (y ≺ O) o.not_above_lem o.not_below
  where
    go : (a b c d : Bool) → (a ≡ true → b ≡ true → ⊥) → (c ≡ true → d ≡ true → ⊥) → (not (a && b) && not (c && d)) ≡ true
    go true true c d p q = absurd (p refl refl)
    go true false true true p q = absurd (q refl refl)
    go true false true false p q = refl
    go true false false d p q = refl
    go false b true true p q = absurd (q refl refl)
    go false b true false p q = refl
    go false b false d p q = refl

module _ (market : Float) (h : List Tried) where
  refused_good : (k n : ℕ) → n ≡ length h → Given k (length h) → (k ≡ 5 → is_price market ≡ false) → (k ≡ 11 → NotFinite market h) → Good market h (refuse k n)
  unfolding refuse
  refused_good k n e g f i = (refl, ap zeros e, g, f, i)

  near_good : (p : Points) (n : ℕ) → Ready market h p → In p → converged p ≡ true
      → Near (solution p n)
  unfolding converged
  near_good p n r z c = go (magnitude p.fb ≺ TOL) refl
    where
      go : (t : Bool) → magnitude p.fb ≺ TOL ≡ t → Near (solution p n)
      go true e = small e
      go false e =
          bracket (opposed_test p.fb p.fc (r.sides e))
          (near p.b p.c r.kb.fit r.kc.fit z.b (volatility_finite p.c z.c)
          (or_left (magnitude (middle p.b p.c) ≼ tolerance p.b) (magnitude p.fb ≺ TOL) c e))

  found_good : (p : Points) (n : ℕ) → n ≡ length h → 2 ≤ n → n ≤ 51 → Ready market h p → In p → converged p ≡ true → Good market h (find p n)
  unfolding find
  found_good p n e a b r z c = (
    refl,
    e,
    record {
      near = near_good p n r z c;
      point = r.kb.obtained;
      opposing = r.kc.obtained;
      in_range = z.b;
      finite_volatility = volatility_finite p.b z.b;
      finite_error = r.kb.finite_error;
      finite_c = volatility_finite p.c z.c;
      finite_c_error = r.kc.finite_error;
      at_least = a;
      at_most = b;
    },
  )

  advanced : (p : Points) → Ready market h p → In p → converged p ≡ false → Later market h (advance p)
  unfolding converged
  advanced p r z c =
      let o = r.sides (or_right_false (magnitude (middle p.b p.c) ≼ tolerance p.b) (magnitude p.fb ≺ TOL) c) in
      let w = advance_in p z c in
      unfold advance in record { ka = r.kb; kc = r.kc; sides = o; fit = add-fits binary64 p.b _; inside = w }

  -- round r on the points q, with n prices obtained
  module _ (m : is_price market ≡ true) (q : Points) (r n : ℕ) (l : r < 50) (e : n ≡ length h) (c : n ≡ r + 2) (b : Before market h q) (z : In q) where
    ready : Ready market h (swap (reset q))
    ready = swap_known market h (reset q) (reset_known market h q b)

    round_found : converged (swap (reset q)) ≡ true → Good market h (find (swap (reset q)) n)
    round_found t = found_good (swap (reset q)) n e (omega arith) (omega arith) ready (ready_in q z) t

    round_asks : converged (swap (reset q)) ≡ false → Good market h (ask market (advance (swap (reset q))) (r + 1) n)
    unfolding ask
    round_asks t =
        let w = advanced (swap (reset q)) ready (ready_in q z) t in
        subst (λ (x : ℕ). Good market h (ask market (advance (swap (reset q))) (r + 1) x)) (sym c) ((m, later r (advance (swap (reset q))) l (sym e ∙ c) w))

-- ---- a price is fed
abbrev grown : List Tried → Float → Float → List Tried
grown h v price = h ++ (record { at = v; price = price } ∷ [])

length_grown : (h : List Tried) (v price : Float) → length (grown h v price) ≡ length h + 1
length_grown h v price = length-append h (record { at = v; price = price } ∷ [])

module _ (market : Float) (h : List Tried) (v price : Float) where
  fed : T (fits binary64 v) → finite (price ⊖ market) ≡ true → Known market (grown h v price) v (price ⊖ market)
  fed f e = record { obtained = record { price = price; among = Memᴰ.append_right h (Memᴰ.head refl); less_market = refl }; finite_error = e; fit = f }

  not_finite : finite (price ⊖ market) ≡ false → NotFinite market (grown h v price)
  not_finite e = record { point = record { at = v; price = price }; among = Memᴰ.append_right h (Memᴰ.head refl); not_finite = e }

low_fits : T (fits binary64 lowest_volatility)
low_fits = round-fits binary64 false 1 1000000

high_fits : T (fits binary64 highest_volatility)
high_fits = round-fits binary64 false 10 1

low_in : is_volatility lowest_volatility ≡ true
unfolding within round le
low_in = refl

high_in : is_volatility highest_volatility ≡ true
unfolding within round le
high_in = refl

no_five : (k : ℕ) → T (ltb 5 k) → {X : Type 0} → k ≡ 5 → X
no_five k h e = absurd (let l = ltb→lt 5 k h in omega arith)

placed_later : (p : Points) (r : ℕ) (error : Float)
    → placed p (r + 2) error ≡ record { a = p.a; b = p.b; c = p.c; fa = p.fa; fb = error; fc = p.fc; d = p.d; e = p.e }
unfolding placed
placed_later p r error = simp (ne_eqb (r + 2) 0 (λ e. omega arith), ne_eqb (r + 2) 1 (λ e. omega arith))

module _ (market price : Float) (m : is_price market ≡ true) (h : List Tried) where
  -- at the lower end
  lower_good : length h ≡ 0 → Good market (grown h lowest_volatility price) (feed (fresh market) price)
  unfolding fresh placed ask is_unbracketed
  lower_good e =
      let t = grown h lowest_volatility price in
      let n : 1 ≡ length t = sym (length_grown h lowest_volatility price ∙ ap (λ (x : ℕ). x + 1) e) in
      feed_by (fresh market) price (Good market t)
      (record {
        at_21 = λ w. clash w (not_turned_down (fresh market) m zero-le zero-le (record { a = low_in; b = high_in; c = low_in }));
        at_11 = λ w1 w2. refused_good market t 11 1 n (subst (Given 11) n (eleven (lit≤ tt) (lit≤ tt))) (no_five 11 tt)
            (λ z. not_finite market h lowest_volatility price w2);
        at_12 = λ w1 w2 w3. absurd (true≢false (sym w3));
        at_13 = λ w1 w2 w3 w4. absurd (true≢false (sym w4));
        at_end = λ w1 w2 w3 w4 w5. (m, upper (price ⊖ market) (sym n) (fed market h lowest_volatility price low_fits w2));
        at_answer = λ w1 w2 w3 w4 w5 w6. absurd (true≢false w5);
        at_round = λ w1 w2 w3 w4 w5 w6. absurd (true≢false w5);
      })

  -- at the upper end: the points are those that the Rust starts its rounds with
  module _ (error : Float) (e : length h ≡ 1) (k : Known market h lowest_volatility error) where
    upper_length : 2 ≡ length (grown h highest_volatility price)
    upper_length = sym (length_grown h highest_volatility price ∙ ap (λ (x : ℕ). x + 1) e)

    abbrev upper_points : Points
    upper_points =
        let d = highest_volatility ⊖ lowest_volatility in
        record { a = lowest_volatility; b = highest_volatility; c = lowest_volatility; fa = error; fb = price ⊖ market; fc = error; d = d; e = d }

    upper_in : In upper_points
    upper_in = record { a = low_in; b = high_in; c = low_in }

    upper_before : finite (price ⊖ market) ≡ true → O ≺ error ⊗ (price ⊖ market) ≡ false → Before market (grown h highest_volatility price) upper_points
    upper_before f w =
        let low = known_more (record { at = highest_volatility; price = price } ∷ []) k in
        record {
          ka = low;
          kb = fed market h highest_volatility price high_fits f;
          kc = low;
          sides = λ u. clash u
              (ap (λ (x : Float). O ≺ x) (mul_commutes (price ⊖ market) error) ∙ w);
        }

    upper_good : Good market (grown h highest_volatility price) (feed (upper_state market error) price)
    unfolding placed is_unbracketed
    upper_good =
        let t = grown h highest_volatility price in
        let n = upper_length in
        let s = upper_state market error in
        feed_by s price (Good market t)
        (record {
          at_21 = λ w. clash w (not_turned_down s m zero-le (lit≤ tt) (record { a = low_in; b = high_in; c = low_in }));
          at_11 = λ w1 w2. refused_good market t 11 2 n (subst (Given 11) n (eleven (lit≤ tt) (lit≤ tt))) (no_five 11 tt)
              (λ z. not_finite market h highest_volatility price w2);
          at_12 = λ w1 w2 w3. refused_good market t 12 2 n (subst (Given 12) n twelve) (no_five 12 tt) (λ z. absurd (omega arith));
          at_13 = λ w1 w2 w3 w4. absurd (true≢false (sym w4));
          at_end = λ w1 w2 w3 w4 w5. absurd (true≢false (sym w5));
          at_answer = λ w1 w2 w3 w4 w5 w6. round_found market t m upper_points 0 2 (lit≤ tt) n refl (upper_before w2 w3) upper_in w6;
          at_round = λ w1 w2 w3 w4 w5 w6. round_asks market t m upper_points 0 2 (lit≤ tt) n refl (upper_before w2 w3) upper_in w6;
        })

  -- in a round
  module _ (r : ℕ) (p : Points) (l : r < 50) (e : length h ≡ r + 2) (k : Later market h p) where
    abbrev later_state : Solver
    later_state = record { market = market; points = p; rounds = r + 1; evaluations = r + 2 }

    abbrev later_points : Points
    later_points = placed p (r + 2) (price ⊖ market)

    later_length : r + 2 + 1 ≡ length (grown h p.b price)
    later_length = sym (length_grown h p.b price ∙ ap (λ (x : ℕ). x + 1) e)

    later_in : In later_points
    later_in = placed_in p (r + 2) (price ⊖ market) k.inside

    later_before : finite (price ⊖ market) ≡ true → Before market (grown h p.b price) later_points
    later_before f =
        let more : List Tried = record { at = p.b; price = price } ∷ [] in
        subst (Before market (grown h p.b price)) (sym (placed_later p r (price ⊖ market)))
        (record {
          ka = known_more more k.ka;
          kb = fed market h p.b price k.fit f;
          kc = known_more more k.kc;
          sides = λ u. opposed_like p.fa (price ⊖ market) p.fc k.sides (alike_of_product (price ⊖ market) p.fc f k.kc.finite_error u);
        })

    later_good : Good market (grown h p.b price) (feed later_state price)
    later_good =
        let t = grown h p.b price in
        let n = later_length in
        let c : r + 2 + 1 ≡ r + 1 + 2 = omega arith in
        feed_by later_state price (Good market t)
        (record {
          at_21 = λ w. clash w (not_turned_down later_state m (omega arith) (omega arith) k.inside);
          at_11 = λ w1 w2. refused_good market t 11 (r + 2 + 1) n (subst (Given 11) n (eleven (omega arith) (omega arith))) (no_five 11 tt)
              (λ z. not_finite market h p.b price w2);
          at_12 = λ w1 w2 w3. absurd (first_only w3);
          at_13 = λ w1 w2 w3 w4. refused_good market t 13 (r + 2 + 1) n (subst (Given 13) (last w4 ∙ n) thirteen) (no_five 13 tt) (λ z. absurd (omega arith));
          at_end = λ w1 w2 w3 w4 w5. absurd (let z = eqb-true (r + 2) 0 w5 in omega arith);
          at_answer = λ w1 w2 w3 w4 w5 w6. round_found market t m later_points (r + 1) (r + 2 + 1) (leb-false 50 (r + 1) w4) n c (later_before w2) later_in w6;
          at_round = λ w1 w2 w3 w4 w5 w6. round_asks market t m later_points (r + 1) (r + 2 + 1) (leb-false 50 (r + 1) w4) n c (later_before w2) later_in w6;
        })
      where
        first_only : is_unbracketed later_state (price ⊖ market) ≡ true → ⊥
        first_only w = let z = eqb-true (r + 2) 1 (and_left (eqb (r + 2) 1) (O ≺ p.fa ⊗ (price ⊖ market)) (unfold is_unbracketed in w)) in omega arith

        last : leb 50 (r + 1) ≡ true → 2 + 50 ≡ r + 2 + 1
        last w = let b = leb-true 50 (r + 1) w in omega arith

  feed_good : (v : Float) (s : Solver) → Live market h v s → Good market (grown h v price) (feed s price)
  feed_good v s (lower e) = lower_good e
  feed_good v s (upper error e k) = upper_good error e k
  feed_good v s (later r p l e k) = later_good r p l e k

-- ---- the point asked for and the points of the state lie in range
pub live_in : (market v : Float) (h : List Tried) (s : Solver) → Live market h v s → (is_volatility v ≡ true) × In s.points
live_in market v h s (lower e) = (low_in, unfold fresh in record { a = low_in; b = high_in; c = low_in })
live_in market v h s (upper error e k) = (high_in, record { a = low_in; b = high_in; c = low_in })
live_in market v h s (later r p l e k) = (k.inside.b, k.inside)

-- ---- a whole run
start_good : (market : Float) → Good market [] (start market)
unfolding start
start_good market =
    by (Good market []) (λ (b : Bool). if b then (asking lowest_volatility (fresh market)) else (refuse 5 0)) (is_price market)
    (λ t. (t, lower refl))
    (λ t. refused_good market [] 5 0 refl five (λ e. t) (λ z. absurd (omega arith)))

all_good : (market : Float) (prices : List Float) (r : Reply) (h : List Tried) → Good market h r
    → Good market (h ++ (feed_all prices r).tried) (feed_all prices r).reply
unfolding feed_all
all_good market [] r h g = subst (λ (t : List Tried). Good market t r) (sym (append-nil h)) g
all_good market (price ∷ prices) (ended o s) h g = subst (λ (t : List Tried). Good market t (ended o s)) (sym (append-nil h)) g
all_good market (price ∷ prices) (asking v s) h g =
    let rest = feed_all prices (feed s price) in
    subst (λ (t : List Tried). Good market t rest.reply) (append_assoc h (record { at = v; price = price } ∷ []) rest.tried)
    (all_good market prices (feed s price) (grown h v price) (feed_good market price g.0 h v s g.1))

pub run_good : (market : Float) (prices : List Float) → Good market (run market prices).tried (run market prices).reply
unfolding run
run_good market prices = all_good market prices (start market) [] (start_good market)

tried_in : (market : Float) (prices : List Float) (r : Reply) (h : List Tried) → Good market h r → {t : Tried} → Memᴰ t (feed_all prices r).tried
    → is_volatility t.at ≡ true
unfolding feed_all
tried_in market [] r h g m = absurd (Memᴰ.not-nil m)
tried_in market (price ∷ prices) (ended o s) h g m = absurd (Memᴰ.not-nil m)
tried_in market (price ∷ prices) (asking v s) h g {t} m =
    go (tried_in market prices (feed s price) (grown h v price) (feed_good market price g.0 h v s g.1) {t = t}) (Memᴰ.cases_cons m)
  where
    go : {X : Type 0} → (X → is_volatility t.at ≡ true) → (t ≡ record { at = v; price = price }) ⊎ X → is_volatility t.at ≡ true
    go rest (inl e) = ap (λ (u : Tried). is_volatility u.at) e ∙ (live_in market v h s g.1).0
    go rest (inr k) = rest k

pub run_in : (market : Float) (prices : List Float) {t : Tried} → Memᴰ t (run market prices).tried → is_volatility t.at ≡ true
unfolding run
run_in market prices m = tried_in market prices (start market) [] (start_good market) m
