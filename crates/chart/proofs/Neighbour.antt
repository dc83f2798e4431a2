-- The neighbour rule, a column at a time. It looks at no column past the row, and finds the nearest counted ones. Assumes nothing.
use Rattle.std.specs.Prelude.{if◌then◌else◌, List, [], ◌∷◌, length, get_or, position}
use Rattle.std.specs.List.{position_or_len}
use Rattle.std.specs.Option.{unwrap_or}
use Prim.Native.Nat.{ℕ, zero, suc, ◌+◌, ◌-◌, ◌≤◌, ◌<◌}
use mathlib.Core.Path.{◌≡◌, refl, sym, ap, ◌∙◌, subst}
use mathlib.Core.Bool.{false}
use mathlib.Core.Logic.{inl, inr}
use mathlib.Core.Option.{Option, none, some}
use native.Mathlib.Nat.{eq-or-lt_of_le, le_of_suc-le-suc}
use native.Mathlib.Omega.{arith}
use lib.Dec.{ltb, eqb}
use lib.Ieee.{Float}
use borrow.Author.Tests.{lt-ltb, le-ltb, ltb-true, ltb-false, eqb-true, eqb-false}
use Rattle.floats.specs.Operators.{decimal, ◌⊘◌}
use Rattle.chart.specs.Cells.{leftward, rightward, either, source}
use Rattle.chart.specs.Steps.{held}
use Rattle.floats.proofs.Tests.{split}

pub source_own : (c : ℕ → ℕ) (w j : ℕ) → 0 < c j → source c w j ≡ j
unfolding source
source_own c w j h = rw (lt-ltb 0 (c j) h)

-- an uncounted column takes its value from where the one before it does
source_last : (c : ℕ → ℕ) (w j : ℕ) → j < w → c j ≡ 0 → source c w j ≡ source c w (j - 1)
unfolding source leftward rightward
source_last c w zero h z = refl
source_last c w (suc j) h z =
    let t : ltb 0 (c (suc j)) ≡ false = le-ltb 0 (c (suc j)) (omega arith) in
    let e : w - j ≡ suc (w - suc j) = omega arith in
    let p : suc j - 1 ≡ j = omega arith in
    rw p (split (ltb 0 (c j)) (λ u. rw (t, u)) (λ u. rw (t, e, u)))

-- what a row holds, a column at a time
pub held_step : (s : ℕ → Float) (c : ℕ → ℕ) (w j : ℕ) (last r : Float) → j < w → last ≡ held s c w (j - 1)
    → r ≡ (if eqb (c j) 0 then last else (s j ⊘ decimal (c j) 1)) → r ≡ held s c w j
unfolding held
held_step s c w j last r h e f =
    split (eqb (c j) 0)
    (λ t. let z : c j ≡ 0 = eqb-true (c j) 0 t in rw (source_last c w j h z) ((rw t at f) ∙ e))
    (λ t. let n = eqb-false (c j) 0 t in let q : 0 < c j = omega arith in rw (source_own c w j q) (rw t at f))

pub held_next : (s : ℕ → Float) (c : ℕ → ℕ) (w j : ℕ) (r : Float) → r ≡ held s c w j → r ≡ held s c w (j + 1 - 1)
held_next s c w j r e =
    let p : j + 1 - 1 ≡ j = omega arith in
    rw p e

-- ---- the first counted column, as a position in the row's counts
from_left : (c : ℕ → ℕ) (w : ℕ) → either none (rightward c 0 w) ≡ source c w 0
unfolding source leftward rightward
from_left c zero = split (ltb 0 (c 0)) (λ t. rw t) (λ t. rw t)
from_left c (suc w) =
    let e : suc w - 0 ≡ suc w = omega arith in
    rw e (split (ltb 0 (c 0)) (λ t. rw t) (λ t. rw t))

abbrev some_before : List ℕ → ℕ
some_before ys = position_or_len (λ n. ltb 0 n) ys

go_right : (c : ℕ → ℕ) (ys : List ℕ) (j : ℕ) → ((k : ℕ) → k < length ys → c (j + k) ≡ get_or ys k 0)
    → either none (rightward c j (length ys)) ≡ (if ltb (some_before ys) (length ys) then j + some_before ys else 0)
unfolding rightward
go_right c [] j h = refl
go_right c (y ∷ ys) j h =
    let here : c j ≡ y = ap c (omega arith) ∙ h 0 (omega arith) in
    let rest = go_right c ys (suc j) (λ k l. ap c (omega arith) ∙ h (suc k) (omega arith)) in
    let k = some_before ys in
    split (ltb 0 y)
    (λ t. rw (here, t, lt-ltb 0 (suc (length ys)) (omega arith)) (omega arith))
    (λ t.
    rw (here, t)
    (split (ltb k (length ys))
    (λ u.
    let l : 1 + k < suc (length ys) = (let w = ltb-true k (length ys) u in omega arith) in
    let e : suc j + k ≡ j + (1 + k) = omega arith in
    rw (lt-ltb (1 + k) (suc (length ys)) l) ((rw u at rest) ∙ e))
    (λ u.
    let l : suc (length ys) ≤ 1 + k = (let w = ltb-false k (length ys) u in omega arith) in
    rw (le-ltb (1 + k) (suc (length ys)) l) (rw u at rest))))

pub first_source : (numbers : List ℕ) → unwrap_or (position (λ n. ltb 0 n) numbers) 0 ≡ source (λ k. get_or numbers k 0) (length numbers) 0
first_source numbers =
    let c : ℕ → ℕ = λ k. get_or numbers k 0 in
    let k = some_before numbers in
    let e = sym (go_right c numbers 0 (λ i l. ap c (omega arith))) ∙ from_left c (length numbers) in
    split (ltb k (length numbers))
    (λ t.
    let z : k ≡ 0 + k = omega arith in
    rw t (z ∙ (rw t at e)))
    (λ t. rw t (rw t at e))

-- ---- counts that agree on the row have the same sources
left_same : (c d : ℕ → ℕ) (j : ℕ) → ((k : ℕ) → k < j → c k ≡ d k) → leftward c j ≡ leftward d j
unfolding leftward
left_same c d zero h = refl
left_same c d (suc j) h = rw (h j (omega arith), left_same c d j (λ k l. h k (omega arith)))

right_same : (c d : ℕ → ℕ) (w j n : ℕ) → j + n ≤ w → ((k : ℕ) → k < w → c k ≡ d k) → rightward c j n ≡ rightward d j n
unfolding rightward
right_same c d w j zero e h = refl
right_same c d w j (suc n) e h = rw (h j (omega arith), right_same c d w (suc j) n (omega arith) h)

source_same : (c d : ℕ → ℕ) (w j : ℕ) → j < w → ((k : ℕ) → k < w → c k ≡ d k) → source c w j ≡ source d w j
unfolding source
source_same c d w j l h = rw (h j l, left_same c d j (λ k m. h k (omega arith)), right_same c d w j (w - j) (omega arith) h)

-- ---- the nearest counted column to the left, or none is counted there; and to the right, from j on
abbrev pub Left : (ℕ → ℕ) → ℕ → Option ℕ → Type 0
Left c j none = (l : ℕ) → l < j → c l ≡ 0
Left c j (some k) = (k < j) × (0 < c k) × ((l : ℕ) → k < l → l < j → c l ≡ 0)

abbrev pub Right : (ℕ → ℕ) → ℕ → ℕ → Option ℕ → Type 0
Right c j w none = (l : ℕ) → j ≤ l → l < w → c l ≡ 0
Right c j w (some k) = (j ≤ k) × (k < w) × (0 < c k) × ((l : ℕ) → j ≤ l → l < k → c l ≡ 0)

-- a column that is j or left of it
at_most : (P : ℕ → Type 0) (j l : ℕ) → l < suc j → P j → (l < j → P l) → P l
at_most P j l h here left = elim (eq-or-lt_of_le (le_of_suc-le-suc h)) [ inl e ↦ subst P (sym e) here | inr k ↦ left k ]

-- j or a column right of it
at_least : (P : ℕ → Type 0) (j l : ℕ) → j ≤ l → P j → (suc j ≤ l → P l) → P l
at_least P j l h here right = elim (eq-or-lt_of_le h) [ inl e ↦ subst P e here | inr k ↦ right k ]

more_left : (c : ℕ → ℕ) (j : ℕ) (o : Option ℕ) → c j ≡ 0 → Left c j o → Left c (suc j) o
more_left c j none z a = λ l h. at_most (λ (k : ℕ). c k ≡ 0) j l h z (a l)
more_left c j (some k) z a = (omega (arith, a.0), a.1, λ l g h. at_most (λ (k : ℕ). c k ≡ 0) j l h z (a.2 l g))

pub left_is : (c : ℕ → ℕ) (j : ℕ) → Left c j (leftward c j)
unfolding leftward
left_is c zero = λ l h. absurd (omega arith)
left_is c (suc j) =
    let r = left_is c j in
    split (ltb 0 (c j))
    (λ t. rw t (omega arith, ltb-true 0 (c j) t, λ l a b. absurd (omega arith)))
    (λ t. rw t (more_left c j (leftward c j) (omega (arith, ltb-false 0 (c j) t)) r))

more_right : (c : ℕ → ℕ) (j w : ℕ) (o : Option ℕ) → c j ≡ 0 → Right c (suc j) w o → Right c j w o
more_right c j w none z a = λ l g h. at_least (λ (k : ℕ). c k ≡ 0) j l g z (λ k. a l k h)
more_right c j w (some k) z a = (omega (arith, a.0), a.1, a.2, λ l g h. at_least (λ (k : ℕ). c k ≡ 0) j l g z (λ i. a.3 l i h))

pub right_is : (c : ℕ → ℕ) (j n w : ℕ) → j + n ≡ w → Right c j w (rightward c j n)
unfolding rightward
right_is c j zero w e = λ l g h. absurd (omega arith)
right_is c j (suc n) w e =
    let r = right_is c (suc j) n w (omega arith) in
    split (ltb 0 (c j))
    (λ t. rw t (omega arith, omega arith, ltb-true 0 (c j) t, λ l a b. absurd (omega arith)))
    (λ t. rw t (more_right c j w (rightward c (suc j) n) (omega (arith, ltb-false 0 (c j) t)) r))

-- the source of a column is a column
pick_below : (c : ℕ → ℕ) (w j : ℕ) (l r : Option ℕ) → j < w → Left c j l → Right c j w r → either l r < w
pick_below c w j (some k) r h a d = omega (arith, a.0)
pick_below c w j none (some k) h a d = d.1
pick_below c w j none none h a d = omega arith

pub source_below : (c : ℕ → ℕ) (w j : ℕ) → j < w → source c w j < w
unfolding source
source_below c w j h =
    split (ltb 0 (c j)) (λ t. rw t h)
    (λ t. rw t (pick_below c w j (leftward c j) (rightward c j (w - j)) h (left_is c j) (right_is c j (w - j) w (omega arith))))

-- sums and counts that agree on the row make it hold the same
pub held_same : (s s' : ℕ → Float) (c c' : ℕ → ℕ) (w j : ℕ) → j < w → ((k : ℕ) → k < w → s k ≡ s' k) → ((k : ℕ) → k < w → c k ≡ c' k)
    → held s c w j ≡ held s' c' w j
unfolding held
held_same s s' c c' w j l hs hc =
    let k = source c' w j in
    let m : k < w = source_below c' w j l in
    rw (source_same c c' w j l hc, hs k m, hc k m)

-- what the first counted column holds goes to those before it
pub held_first : (s : ℕ → Float) (c : ℕ → ℕ) (w f : ℕ) (v : Float) → f ≡ source c w 0 → v ≡ s f ⊘ decimal (c f) 1 → v ≡ held s c w (0 - 1)
unfolding held
held_first s c w f v e h = rw (← e) h
