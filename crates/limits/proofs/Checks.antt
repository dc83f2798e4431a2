-- A line of checks gives its number exactly where its check holds; else the lines after it decide. And what that comes to for a whole chain, said once for
-- chains of any length. Assumes nothing.
use Rattle.std.specs.Prelude.{if◌then◌else◌}
use mathlib.Core.Path.{◌≡◌, refl, sym}
use mathlib.Core.Bool.{Bool, true, false, not, ◌||◌, ◌&&◌, true≢false}
use mathlib.Core.List.{List, [], ◌∷◌}
use Prim.Native.Nat.{ℕ, ◌<◌}
use native.Mathlib.Omega.{arith}
use lib.Dec.{ltb, leb, eqb}
use borrow.Author.Tests.{ltb-true, leb-true, eq-eqb, ne_eqb, lt-leb, not-true}
use Rattle.floats.proofs.Tests.{by, clash, and_left, and_right, or_left_false, or_right_false}
use Rattle.limits.specs.Checks.{first, none}
use Rattle.limits.specs.Outcome.{Outcome, done, refused}

pub first_holds : (holds : Bool) (number rest : ℕ) → holds ≡ true → first holds number rest ≡ number
unfolding first
first_holds holds number rest h = simp h

pub first_passes : (holds : Bool) (number rest : ℕ) → holds ≡ false → first holds number rest ≡ rest
unfolding first
first_passes holds number rest h = simp h

-- what is so of a row's number and of what comes behind it is so of the chain's
pub first_keeps : (P : ℕ → Type 0) (holds : Bool) (number rest : ℕ) → P number → P rest → P (first holds number rest)
unfolding first
first_keeps P true number rest h k = h
first_keeps P false number rest h k = k

-- done, or refused by a number of which P is so
abbrev pub IfRefused : {X : Type 0} → (ℕ → Type 0) → Outcome X → Type 0
IfRefused P (done x) = Unit {0}
IfRefused P (refused number x) = P number

-- refused by such a number, or an outcome that is so
pub chosen : {X : Type 0} (P : ℕ → Type 0) (n : ℕ) (x : X) (o : Outcome X) → P n → IfRefused P o → IfRefused P (if eqb n none then o else refused n x)
chosen P n x o h k = by (IfRefused P) (λ (b : Bool). if b then o else refused n x) (eqb n none) (λ _. k) (λ _. h)

-- where no number comes, the first check passed and so did the others
pub none_passes : (holds : Bool) (number rest : ℕ) → 0 < number → first holds number rest ≡ none → (holds ≡ false) × (rest ≡ none)
unfolding first
none_passes true number rest n h = absurd (omega arith)
none_passes false number rest n h = (refl, h)

-- ---- a chain, as its rows: each a check with its number
abbrev pub Rows : Type 0
Rows = List (Bool × ℕ)

abbrev pub chain : Rows → ℕ → ℕ
chain [] rest = rest
chain (row ∷ rows) rest = first row.0 row.1 (chain rows rest)

-- every number is above k, which for numbers written out is seen by computing
abbrev pub above : ℕ → Rows → Bool
above k [] = true
above k (row ∷ rows) = ltb k row.1 && above k rows

-- no check holds
abbrev pub Passed : Rows → Type 0
Passed [] = Unit {0}
Passed (row ∷ rows) = (row.0 ≡ false) × Passed rows

above_first : (k : ℕ) (row : Bool × ℕ) (rows : Rows) → above k (row ∷ rows) ≡ true → k < row.1
above_first k row rows h = ltb-true k row.1 (and_left (ltb k row.1) (above k rows) h)

above_rest : (k : ℕ) (row : Bool × ℕ) (rows : Rows) → above k (row ∷ rows) ≡ true → above k rows ≡ true
above_rest k row rows h = and_right (ltb k row.1) (above k rows) h

-- where no number comes, each check of the chain passed, and what comes behind it gave none
pub passes : (rows : Rows) (rest : ℕ) → above 0 rows ≡ true → chain rows rest ≡ none → Passed rows × (rest ≡ none)
passes [] rest a h = (tt, h)
passes (row ∷ rows) rest a h =
    let n = none_passes row.0 row.1 (chain rows rest) (above_first 0 row rows a) h in
    let p = passes rows rest (above_rest 0 row rows a) n.1 in
    ((n.0, p.0), p.1)

-- every number is at most k
abbrev pub up_to : ℕ → Rows → Bool
up_to k [] = true
up_to k (row ∷ rows) = leb row.1 k && up_to k rows

-- a number above those of the chain comes from behind it
pub past : (k : ℕ) (rows : Rows) (rest : ℕ) → up_to k rows ≡ true → k < chain rows rest → Passed rows
unfolding first
past k [] rest a h = tt
past k ((true, number) ∷ rows) rest a h = absurd (omega (arith, leb-true number k (and_left (leb number k) (up_to k rows) a)))
past k ((false, number) ∷ rows) rest a h = (refl, past k rows rest (and_right (leb number k) (up_to k rows) a) h)

-- what comes behind a chain is asked where the chain gives no number
pub behind : (rows : Rows) (rest : ℕ) → above 0 rows ≡ true → chain rows rest ≡ (if eqb (chain rows none) none then rest else chain rows none)
unfolding first
behind [] rest a = refl
behind ((true, number) ∷ rows) rest a = sym (rw (ne_eqb number none (λ e. omega (arith, above_first 0 (true, number) rows a))))
behind ((false, number) ∷ rows) rest a = behind rows rest (above_rest 0 (false, number) rows a)

-- what a chain says, it says whatever comes behind it
pub stays : (rows : Rows) (n rest : ℕ) → n ≡ chain rows none → (n ≡ none → ⊥) → n ≡ chain rows rest
unfolding first
stays [] n rest h k = absurd (k h)
stays ((true, number) ∷ rows) n rest h k = h
stays ((false, number) ∷ rows) n rest h k = stays rows n rest h k

-- no row has the number k
abbrev pub lacks : ℕ → Rows → Bool
lacks k [] = true
lacks k (row ∷ rows) = not (eqb row.1 k) && lacks k rows

-- a number that no row has comes from behind the chain
pub elsewhere : (k : ℕ) (rows : Rows) (rest : ℕ) → lacks k rows ≡ true → chain rows rest ≡ k → rest ≡ k
unfolding first
elsewhere k [] rest a h = h
elsewhere k ((true, number) ∷ rows) rest a h = absurd (clash (eq-eqb number k h) (not-true (eqb number k) (and_left (not (eqb number k)) (lacks k rows) a)))
elsewhere k ((false, number) ∷ rows) rest a h = elsewhere k rows rest (and_right (not (eqb number k)) (lacks k rows) a) h

-- a number that comes is one of the chain's
pub late : (k : ℕ) (rows : Rows) → above k rows ≡ true → eqb (chain rows none) none ≡ false → leb (chain rows none) k ≡ false
unfolding first
late k [] a h = absurd (true≢false h)
late k ((true, number) ∷ rows) a h = lt-leb number k (above_first k (true, number) rows a)
late k ((false, number) ∷ rows) a h = late k rows (above_rest k (false, number) rows a) h

-- ---- tests side by side
-- one of them holds
abbrev pub one_of : Bool → List Bool → Bool
one_of a [] = a
one_of a (b ∷ bs) = one_of (a || b) bs

abbrev pub NoneOf : List Bool → Type 0
NoneOf [] = Unit {0}
NoneOf (b ∷ bs) = (b ≡ false) × NoneOf bs

pub none_of : (a : Bool) (bs : List Bool) → one_of a bs ≡ false → (a ≡ false) × NoneOf bs
none_of a [] h = (h, tt)
none_of a (b ∷ bs) h =
    let r = none_of (a || b) bs h in
    (or_left_false a b r.0, (or_right_false a b r.0, r.1))

-- the checks of some rows, side by side: one of them holds exactly where the chain gives a number
abbrev pub one_holds : Bool → Rows → Bool
one_holds a [] = a
one_holds a (row ∷ rows) = one_holds (a || row.0) rows

pub one_holds_lem : (rows : Rows) → above 0 rows ≡ true → one_holds false rows ≡ not (eqb (chain rows none) none)
unfolding first
one_holds_lem [] a = refl
one_holds_lem ((true, number) ∷ rows) a = rw (ne_eqb number none (λ e. omega (arith, above_first 0 (true, number) rows a))) (go rows)
  where
    go : (rows : Rows) → one_holds true rows ≡ true
    go [] = refl
    go (row ∷ rows) = go rows
one_holds_lem ((false, number) ∷ rows) a = one_holds_lem rows (above_rest 0 (false, number) rows a)
