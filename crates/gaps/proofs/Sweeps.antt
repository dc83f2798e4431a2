-- What the sweeps make of one line: each place takes the value that `Takes` names. Assumes nothing.
use Rattle.std.specs.Prelude.{if◌then◌else◌}
use Prim.Native.Nat.{ℕ, zero, suc, ◌≤◌, ◌<◌}
use mathlib.Core.Path.{◌≡◌, refl, ap, ◌∙◌}
use mathlib.Core.Bool.{Bool, true, false}
use mathlib.Core.List.{List, [], ◌∷◌}
use mathlib.Core.Logic.{inl, inr}
use native.Mathlib.Nat.{eq-or-lt_of_le, le_of_suc-le-suc}
use native.Mathlib.Omega.{arith}
use lib.Dec.{ltb}
use lib.ListN.{length, get_or}
use lib.Ieee.{Float, nan, is_nan}
use borrow.Author.Tests.{ltb-true, ltb-false}
use Rattle.floats.proofs.Tests.{split}
use Rattle.gaps.specs.Gaps.{filled, forward, backward, swept}
use Rattle.gaps.specs.Filler.{Takes}

pub nan_gap : is_nan nan ≡ true
unfolding is_nan
nan_gap = refl

filled_value : (last v : Float) → is_nan v ≡ false → filled last v ≡ v
unfolding filled
filled_value last v e = ap (λ (b : Bool). if b then last else v) e

filled_gap : (last v : Float) → is_nan v ≡ true → filled last v ≡ last
unfolding filled
filled_gap last v e = ap (λ (b : Bool). if b then last else v) e

-- ---- forward
length_forward : (last : Float) (vs : List Float) → length (forward last vs) ≡ length vs
unfolding forward
length_forward last [] = refl
length_forward last (v ∷ vs) = ap suc (length_forward (filled last v) vs)

-- no value was passed
forward_gaps : (vs : List Float) (last : Float) (j : ℕ) → j < length vs → ((l : ℕ) → l ≤ j → is_nan (get_or vs l nan) ≡ true)
    → get_or (forward last vs) j nan ≡ last
unfolding forward
forward_gaps [] last j h g = absurd (omega arith)
forward_gaps (v ∷ vs) last zero h g = filled_gap last v (g 0 (omega arith))
forward_gaps (v ∷ vs) last (suc j) h g =
    forward_gaps vs (filled last v) j (le_of_suc-le-suc h) (λ l m. g (suc l) (omega arith)) ∙ filled_gap last v (g 0 (omega arith))

-- the value at k was the last one passed
forward_takes : (vs : List Float) (last : Float) (j k : ℕ) → k ≤ j → j < length vs → is_nan (get_or vs k nan) ≡ false
    → ((l : ℕ) → k < l → l ≤ j → is_nan (get_or vs l nan) ≡ true) → get_or (forward last vs) j nan ≡ get_or vs k nan
unfolding forward
forward_takes [] last j k p h e g = absurd (omega arith)
forward_takes (v ∷ vs) last zero zero p h e g = filled_value last v e
forward_takes (v ∷ vs) last zero (suc k) p h e g = absurd (omega arith)
forward_takes (v ∷ vs) last (suc j) zero p h e g =
    forward_gaps vs (filled last v) j (le_of_suc-le-suc h) (λ l m. g (suc l) (omega arith) (omega arith)) ∙ filled_value last v e
forward_takes (v ∷ vs) last (suc j) (suc k) p h e g =
    forward_takes vs (filled last v) j k (le_of_suc-le-suc p) (le_of_suc-le-suc h) e (λ l m n. g (suc l) (omega arith) (omega arith))

-- ---- backward
length_backward : (vs : List Float) → length (backward vs) ≡ length vs
unfolding backward
length_backward [] = refl
length_backward (v ∷ vs) = ap suc (length_backward vs)

-- the value at k is the first one from j on
backward_takes : (vs : List Float) (j k : ℕ) → j ≤ k → k < length vs → is_nan (get_or vs k nan) ≡ false
    → ((l : ℕ) → j ≤ l → l < k → is_nan (get_or vs l nan) ≡ true) → get_or (backward vs) j nan ≡ get_or vs k nan
unfolding backward
backward_takes [] j k p h e g = absurd (omega arith)
backward_takes (v ∷ vs) zero zero p h e g = filled_value (get_or (backward vs) 0 nan) v e
backward_takes (v ∷ vs) zero (suc k) p h e g =
    filled_gap (get_or (backward vs) 0 nan) v (g 0 (omega arith) (omega arith))
    ∙ backward_takes vs zero k (omega arith) (le_of_suc-le-suc h) e (λ l m n. g (suc l) (omega arith) (omega arith))
backward_takes (v ∷ vs) (suc j) zero p h e g = absurd (omega arith)
backward_takes (v ∷ vs) (suc j) (suc k) p h e g =
    backward_takes vs j k (le_of_suc-le-suc p) (le_of_suc-le-suc h) e (λ l m n. g (suc l) (omega arith) (omega arith))

-- no value from j on
backward_gaps : (vs : List Float) (j : ℕ) → j < length vs → ((l : ℕ) → l < length vs → is_nan (get_or vs l nan) ≡ true)
    → is_nan (get_or (backward vs) j nan) ≡ true
unfolding backward
backward_gaps [] j h g = absurd (omega arith)
backward_gaps (v ∷ []) zero h g = rw (filled_gap nan v (g 0 (omega arith))) nan_gap
backward_gaps (v ∷ w ∷ vs) zero h g =
    rw (filled_gap (get_or (backward (w ∷ vs)) 0 nan) v (g 0 (omega arith)))
    (backward_gaps (w ∷ vs) 0 (omega arith) (λ l m. g (suc l) (omega arith)))
backward_gaps (v ∷ vs) (suc j) h g = backward_gaps vs j (le_of_suc-le-suc h) (λ l m. g (suc l) (omega arith))

-- ---- both
pub length_swept : (vs : List Float) → length (swept vs) ≡ length vs
length_swept vs = length_backward (forward nan vs) ∙ length_forward nan vs

module _ (vs : List Float) (j : ℕ) (h : j < length vs) where
  abbrev passed : List Float
  passed = forward nan vs

  within : (k : ℕ) → k < length vs → k < length passed
  within k l = rw (length_forward nan vs) l

  pub swept_takes : (k : ℕ) → Takes (λ l. get_or vs l nan) (length vs) j k → get_or (swept vs) j nan ≡ get_or vs k nan
  swept_takes k t =
      split (ltb j k)
      (λ u.
      let p = ltb-true j k u in
      let gaps = t.after p in
      let own = forward_takes vs nan k k (omega arith) t.inside t.value (λ l a b. absurd (omega arith)) in
      backward_takes passed j k (omega arith) (within k t.inside) (rw own t.value)
      (λ l a b. rw (forward_gaps vs nan l (omega arith) (λ m c. gaps m (omega arith))) nan_gap)
      ∙ own)
      (λ u.
      let p = ltb-false j k u in
      let got = forward_takes vs nan j k p h t.value t.before in
      backward_takes passed j j (omega arith) (within j h) (rw got t.value) (λ l a b. absurd (omega arith)) ∙ got)

  pub swept_gaps : ((l : ℕ) → l < length vs → is_nan (get_or vs l nan) ≡ true) → is_nan (get_or (swept vs) j nan) ≡ true
  swept_gaps g =
      backward_gaps passed j (within j h) (λ l a.
      let b : l < length vs = (rw (length_forward nan vs) at a) in
      rw (forward_gaps vs nan l b (λ m c. g m (omega arith))) nan_gap)

-- ---- in a line with a value, each place takes one
data UpTo (v : ℕ → Float) (j : ℕ) : Type 0 where
  found : (k : ℕ) → k ≤ j → is_nan (v k) ≡ false → ((l : ℕ) → k < l → l ≤ j → is_nan (v l) ≡ true) → UpTo v j
  none : ((l : ℕ) → l ≤ j → is_nan (v l) ≡ true) → UpTo v j

-- one gap more
grow : (v : ℕ → Float) (j : ℕ) → is_nan (v (suc j)) ≡ true → UpTo v j → UpTo v (suc j)
grow v j t (found k h e g) =
    found k (omega arith) e (λ l a b. elim (eq-or-lt_of_le b) [ inl p ↦ rw p t | inr c ↦ g l a (le_of_suc-le-suc c) ])
grow v j t (none g) = none (λ l b. elim (eq-or-lt_of_le b) [ inl p ↦ rw p t | inr c ↦ g l (le_of_suc-le-suc c) ])

up_to : (v : ℕ → Float) (j : ℕ) → UpTo v j
up_to v zero =
    split (is_nan (v 0))
    (λ t. none (λ l h. let e : l ≡ 0 = omega arith in rw e t))
    (λ f. found 0 (omega arith) f (λ l a b. absurd (omega arith)))
up_to v (suc j) =
    split (is_nan (v (suc j)))
    (λ t. grow v j t (up_to v j))
    (λ f. found (suc j) (omega arith) f (λ l a b. absurd (omega arith)))

-- the first value of a line that has one at k
record First (v : ℕ → Float) (k : ℕ) : Type 0 where
  place : ℕ
  near : place ≤ k
  value : is_nan (v place) ≡ false
  gaps : (l : ℕ) → l < place → is_nan (v l) ≡ true

first_value : (v : ℕ → Float) (k : ℕ) → is_nan (v k) ≡ false → First v k
first_value v zero e = record { place = 0; near = omega arith; value = e; gaps = λ l h. absurd (omega arith) }
first_value v (suc k) e =
    split (is_nan (v 0))
    (λ t. later t (first_value (λ l. v (suc l)) k e))
    (λ f. record { place = 0; near = omega arith; value = f; gaps = λ l h. absurd (omega arith) })
  where
    past : is_nan (v 0) ≡ true → (p : ℕ) → ((l : ℕ) → l < p → is_nan (v (suc l)) ≡ true) → (l : ℕ) → l < suc p → is_nan (v l) ≡ true
    past t p g zero h = t
    past t p g (suc l) h = g l (le_of_suc-le-suc h)

    later : is_nan (v 0) ≡ true → First (λ l. v (suc l)) k → First v (suc k)
    later t r = record { place = suc r.place; near = omega (arith, r.near); value = r.value; gaps = past t r.place r.gaps }

pub record Given (v : ℕ → Float) (n j : ℕ) : Type 0 where
  pub place : ℕ
  pub takes : Takes v n j place

pub given : (v : ℕ → Float) (n j k : ℕ) → j < n → k < n → is_nan (v k) ≡ false → Given v n j
given v n j k h m e = from (up_to v j)
  where
    from : UpTo v j → Given v n j
    from (found p a f g) = record { place = p; takes = record { inside = omega arith; value = f; before = g; after = λ b. absurd (omega arith) } }
    from (none g) =
        let r = first_value v k e in
        record {
          place = r.place;
          takes = record { inside = omega (arith, r.near); value = r.value; before = λ l a b. g l b; after = λ b. r.gaps };
        }

-- a place that has a value takes its own
pub takes_own : (v : ℕ → Float) (n j : ℕ) → j < n → is_nan (v j) ≡ false → Takes v n j j
takes_own v n j h e = record { inside = h; value = e; before = λ l a b. absurd (omega arith); after = λ b. absurd (omega arith) }

-- two lines that are the same up to n
pub takes_same : (v w : ℕ → Float) (n j k : ℕ) → ((l : ℕ) → l < n → v l ≡ w l) → j < n → Takes v n j k → Takes w n j k
takes_same v w n j k e h t =
    record {
      inside = t.inside;
      value = rw (← e k t.inside) t.value;
      before = λ l a b. rw (← e l (omega arith)) (t.before l a b);
      after = λ a l b. rw (← e l (omega (arith, t.inside))) (t.after a l b);
    }
