-- A blank strike of a reading is not answered by the expiry's number. Assumes nothing.
use Rattle.std.specs.Prelude.{Some}
use Prim.Native.Nat.{ℕ}
use mathlib.Core.Path.{◌≡◌, refl, sym, subst}
use mathlib.Core.Bool.{Bool, true, false, not}
use mathlib.Core.List.{List}
use borrow.Author.Tests.{eq-eqb}
use lib.Dec.{eqb}
use lib.ListN.{get_or, take}
use lib.Ieee.{Float, nan, inf, fin, le}
use Rattle.floats.specs.Operators.{◌≼◌}
use Rattle.floats.proofs.Tests.{clash}
use Rattle.limits.specs.Ranges.{within}
use Rattle.limits.specs.Checks.{first, none}
use Rattle.limits.specs.Outcome.{Outcome, done, refused, answered}
use Rattle.limits.proofs.Checks.{first_keeps, IfRefused, chosen}
use Rattle.grid.specs.Readings.{inside, read_refusal, reading}
use Rattle.chart.specs.Build.{refusal}
use Rattle.chart.specs.declared.Lengths.{Lengths}
use Rattle.ledger.specs.Book.{Columns}
use Rattle.ledger.specs.Build.{Buffers, build_refusal, build_outcome, buffers_after}
use Rattle.ledger.specs.Claim.{Ledger}
use Rattle.ledger.specs.declared.Book.{Book}
use Rattle.hexlines.specs.declared.Frame.TheVariants.{Read}
use Rattle.protocol.specs.declared.Asked.{Asked}
use Rattle.protocol.specs.Hear.{said, blank, read_of, reads, asked_by, answers, hears}

-- Done, or refused by another number than the expiry's.
abbrev Not20 : ℕ → Type 0
Not20 n = n ≡ 20 → ⊥

abbrev Other : {X : Type 0} → Outcome X → Type 0
Other o = IfRefused Not20 o

other : (n : ℕ) → eqb n 20 ≡ false → Not20 n
other n h e = clash (eq-eqb n 20 e) h

skip : (holds : Bool) (number rest : ℕ) → eqb number 20 ≡ false → Not20 rest → Not20 (first holds number rest)
skip holds number rest h k = first_keeps Not20 holds number rest (other number h) k

stops : (holds : Bool) (number rest : ℕ) → holds ≡ true → eqb number 20 ≡ false → first holds number rest ≡ 20 → ⊥
unfolding first
stops holds number rest t h = rw t (other number h)

build_other : (b : Book) (c : Columns) (s : Buffers) → Other (build_outcome b c s)
unfolding build_refusal refusal answered
build_other b c s =
    chosen Not20 _ _ (done _)
    (skip _ 1 _ refl
    (skip _ 2 _ refl
    (skip _ 1 _ refl (skip _ 2 _ refl (skip _ 15 _ refl (skip _ 16 _ refl (skip _ 17 none refl (other none refl))))))))
    tt

-- A not-a-number stands in no axis.
at_most_blank : (x : Float) → x ≼ nan ≡ false
at_most_blank nan = unfold le in refl
at_most_blank (inf s) = unfold le in refl
at_most_blank (fin s m e) = unfold le in refl

off_axis : (axis : List Float) → not (inside axis nan) ≡ true
unfolding inside within
off_axis axis = rw (at_most_blank (get_or axis 0 nan))

read_other : (ks ts grid : _) (m n : ℕ) (expiry : Float) → Other (reading ks ts grid m n nan expiry)
unfolding reading read_refusal answered
read_other ks ts grid m n expiry =
    chosen Not20 _ _ (done _)
    (skip _ 2 _ refl (skip _ 15 _ refl (skip _ 18 _ refl (stops _ 19 _ (off_axis (take m ks)) refl))))
    tt

read_of_other : (s : Buffers) (expiry : Float) (o : Outcome Lengths) → Other o → Other (read_of s nan expiry o)
unfolding read_of
read_of_other s expiry (done n) h = read_other s.strikes s.expiries s.grid n.strikes n.expiries expiry
read_of_other s expiry (refused number n) h = h

said_other : (l : Ledger) (o : Outcome Float) → Other o → (said l (λ x. x) o).number ≡ 20 → ⊥
unfolding said
said_other l (done x) h = other none refl
said_other l (refused number x) h = h

answers_other : (l : Ledger) (a : Asked) (expiry : Float) → a ≡ Asked.Read nan expiry → (answers l a).number ≡ 20 → ⊥
unfolding answers reads
answers_other l a expiry e =
    let s = buffers_after l.book l.columns blank in
    let o = build_outcome l.book l.columns blank in
    subst (λ (z : Asked). (answers l z).number ≡ 20 → ⊥) (sym e)
    (said_other l (read_of s nan expiry o) (read_of_other s expiry o (build_other l.book l.columns blank)))

pub blank_strike : (l : Ledger) (expiry : Float) → (hears l (Some (Read nan expiry))).number ≡ 20 → ⊥
unfolding hears asked_by
blank_strike l expiry = answers_other l (asked_by (Read nan expiry)) expiry refl
