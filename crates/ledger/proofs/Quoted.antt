-- A column that holds the listed quotes' entries, in order, and behind them what stood there at first; one more quote at its end. Assumes nothing.
use mathlib.Core.Path.{◌≡◌, sym, ◌∙◌}
use Prim.Native.Nat.{suc, ◌≤◌, ◌<◌}
use native.Mathlib.Omega.{arith}
use mathlib.Core.Bool.{true}
use mathlib.Core.List.{List, [], ◌∷◌, ◌++◌, map, map-append}
use lib.ListN.{length, take, drop, get_or, set, length-map, length-append, length-drop}
use lib.Seq.{take_at, drop-cons, set_at, append_snoc}
use Rattle.floats.proofs.Tests.{and_left, and_right}
use Rattle.chart.specs.Quotes.{Quote, in_range, all_in_range}
use Rattle.ledger.specs.Claim.{column_of}

pub column_length : {X : Type 0} (f : Quote → X) (qs : List Quote) (was : List X) → length qs ≤ length was → length (column_of f qs was) ≡ length was
column_length f qs was h = simp (length-append, length-map, length-drop) (omega arith)

pub column_front : {X : Type 0} (f : Quote → X) (qs : List Quote) (was : List X) → take (length qs) (column_of f qs was) ≡ map f qs
column_front f qs was = take_at (map f qs) (drop (length qs) was) (length qs) (length-map qs f)

pub column_grows : {X : Type 0} (f : Quote → X) (qs : List Quote) (was : List X) (q : Quote) → length qs < length was
    → set (column_of f qs was) (length qs) (f q) ≡ column_of f (qs ++ (q ∷ [])) was
column_grows f qs was q h =
    let n = length qs in
    let l : length (qs ++ (q ∷ [])) ≡ suc n = simp length-append (omega arith) in
    rw (drop-cons was n (f q) h, l, map-append)
    (set_at (map f qs) (get_or was n (f q)) (drop (suc n) was) (f q) n (length-map qs f) ∙ sym (append_snoc (map f qs) (f q) (drop (suc n) was)))

pub ranged_more : (qs : List Quote) (q : Quote) → in_range q ≡ true → all_in_range qs ≡ true → all_in_range (qs ++ (q ∷ [])) ≡ true
unfolding all_in_range
ranged_more [] q h r = rw h
ranged_more (p ∷ qs) q h r = rw (and_left (in_range p) (all_in_range qs) r, ranged_more qs q h (and_right (in_range p) (all_in_range qs) r))
