-- A line is what stands between two line feeds. Assumes nothing.
use mathlib.Core.Path.{◌≡◌, refl, sym, ap, ◌∙◌}
use mathlib.Core.Logic.{◌⊎◌, inl, inr, ⊎_elim}
use mathlib.Core.Bool.{Bool, true, false, not, cond}
use mathlib.Core.List.{List, [], ◌∷◌, ◌++◌, append_assoc, append-nil}
use Prim.Native.Nat.{ℕ}
use lib.Dec.{eqb}
use borrow.Author.Tests.{not-true, eqb-true}
use Rattle.floats.proofs.Tests.{by, and_left, and_right}
use Rattle.hexlines.specs.Lines.{unended, lines_after, lines, no_feed, no_feeds, fed}

no_feed_lem : (c : ℕ) (cs : List ℕ) → no_feed (c ∷ cs) ≡ true → eqb c 10 ≡ false
unfolding no_feed
no_feed_lem c cs e = not-true (eqb c 10) (and_left (not (eqb c 10)) (no_feed cs) e)

no_feed_after : (c : ℕ) (cs : List ℕ) → no_feed (c ∷ cs) ≡ true → no_feed cs ≡ true
unfolding no_feed
no_feed_after c cs e = and_right (not (eqb c 10)) (no_feed cs) e

-- A line feed ends the line.
line_ends : (p l rest : List ℕ) → no_feed l ≡ true → lines_after p (l ++ 10 ∷ rest) ≡ (p ++ l) ∷ lines_after [] rest
unfolding lines_after
line_ends p [] rest e = rw append-nil
line_ends p (c ∷ l) rest e =
    rw (no_feed_lem c l e) (line_ends (p ++ c ∷ []) l rest (no_feed_after c l e) ∙ ap (λ (z : List ℕ). z ∷ lines_after [] rest) (append_assoc p (c ∷ []) l))

-- So does the end of the input.
input_ends : (p l : List ℕ) → no_feed l ≡ true → lines_after p l ≡ unended (p ++ l)
unfolding lines_after
input_ends p [] e = rw append-nil
input_ends p (c ∷ l) e =
    rw (no_feed_lem c l e) (input_ends (p ++ c ∷ []) l (no_feed_after c l e) ∙ ap unended (append_assoc p (c ∷ []) l))

pub fed_lines : (ls : List (List ℕ)) → no_feeds ls ≡ true → lines (fed ls) ≡ ls
unfolding fed no_feeds lines_after unended
fed_lines [] e = refl
fed_lines (l ∷ ls) e =
    line_ends [] l (fed ls) (and_left (no_feed l) (no_feeds ls) e) ∙ ap (λ (z : List (List ℕ)). l ∷ z) (fed_lines ls (and_right (no_feed l) (no_feeds ls) e))

pub last_unfed : (ls : List (List ℕ)) (c : ℕ) (cs : List ℕ) → no_feeds ls ≡ true → no_feed (c ∷ cs) ≡ true →
    lines (fed ls ++ c ∷ cs) ≡ ls ++ (c ∷ cs) ∷ []
unfolding fed no_feeds unended
last_unfed [] c cs e f = input_ends [] (c ∷ cs) f
last_unfed (l ∷ ls) c cs e f =
    ap lines (append_assoc l (10 ∷ fed ls) (c ∷ cs))
    ∙ line_ends [] l (fed ls ++ c ∷ cs) (and_left (no_feed l) (no_feeds ls) e)
    ∙ ap (λ (z : List (List ℕ)). l ∷ z) (last_unfed ls c cs (and_right (no_feed l) (no_feeds ls) e) f)

feed_free_snoc : (p : List ℕ) (c : ℕ) → no_feed p ≡ true → eqb c 10 ≡ false → no_feed (p ++ c ∷ []) ≡ true
unfolding no_feed
feed_free_snoc [] c e f = rw f
feed_free_snoc (x ∷ p) c e f = rw (no_feed_lem x p e) (feed_free_snoc p c (no_feed_after x p e) f)

-- No line has a line feed in it.
none_inside : (p bs : List ℕ) → no_feed p ≡ true → no_feeds (lines_after p bs) ≡ true
unfolding lines_after unended no_feeds no_feed
none_inside [] [] e = refl
none_inside (x ∷ p) [] e = rw e
none_inside p (c ∷ bs) e =
    by (λ (ls : List (List ℕ)). no_feeds ls ≡ true) (λ (q : Bool). cond q (p ∷ lines_after [] bs) (lines_after (p ++ c ∷ []) bs)) (eqb c 10)
    (λ t. rw (e, none_inside [] bs refl))
    (λ t. none_inside (p ++ c ∷ []) bs (feed_free_snoc p c e t))

pub no_feeds_lem : (input : List ℕ) → no_feeds (lines input) ≡ true
unfolding no_feed
no_feeds_lem input = none_inside [] input refl

-- No byte is lost, and none is added but the last line feed.
all_there : (p bs : List ℕ) → (fed (lines_after p bs) ≡ p ++ bs) ⊎ (fed (lines_after p bs) ≡ (p ++ bs) ++ 10 ∷ [])
unfolding lines_after unended fed
all_there [] [] = inl refl
all_there (x ∷ p) [] = inr (ap (λ (z : List ℕ). x ∷ (z ++ 10 ∷ [])) (sym (append-nil p)))
all_there p (c ∷ bs) =
    by (λ (ls : List (List ℕ)). (fed ls ≡ p ++ c ∷ bs) ⊎ (fed ls ≡ (p ++ c ∷ bs) ++ 10 ∷ []))
    (λ (q : Bool). cond q (p ∷ lines_after [] bs) (lines_after (p ++ c ∷ []) bs)) (eqb c 10)
    (λ t.
    let e : p ++ 10 ∷ bs ≡ p ++ c ∷ bs = rw (eqb-true c 10 t) in
    ⊎_elim (λ h. inl (ap (λ (z : List ℕ). p ++ 10 ∷ z) h ∙ e))
    (λ h. inr (ap (λ (z : List ℕ). p ++ 10 ∷ z) h ∙ sym (append_assoc p (10 ∷ bs) (10 ∷ [])) ∙ ap (λ (z : List ℕ). z ++ 10 ∷ []) e)) (all_there [] bs))
    (λ t. rw (append_assoc p (c ∷ []) bs) at (all_there (p ++ c ∷ []) bs))

pub nothing_lost : (input : List ℕ) → (fed (lines input) ≡ input) ⊎ (fed (lines input) ≡ input ++ 10 ∷ [])
nothing_lost input = all_there [] input
