-- Sorting values that are finite and above 0: the result is sorted, and a permutation. Assumes nothing.
use Prim.Native.Nat.{ℕ, zero, suc, ◌*◌, ◌<◌}
use mathlib.Core.Path.{◌≡◌, refl, sym, subst}
use mathlib.Core.Bool.{true, false}
use mathlib.Core.Logic.{◌⊎◌, inl, inr, ⊎_map}
use mathlib.Core.List.Permᴰ
use mathlib.Core.List.{List, [], ◌∷◌, ◌++◌, append-nil, Permᴰ}
use native.Mathlib.Nat.{le_of_suc-le-suc}
use native.Mathlib.Omega.{arith}
use lib.Dec.{T}
use lib.ListN.{length, get_or}
use lib.Ieee.{Float, nan, inf, fin, lt, up, down}
use lib.Ieee.Positive.{positive}
use borrow.Author.Tests.{le-ltb}
use Rattle.floats.specs.Operators.{◌≺◌}
use Rattle.floats.proofs.Order.{Under, under_trans, under_of_lt, under_of_not_lt}
use Rattle.chart.specs.Axis.{insert, sorted_into, sort}
use Rattle.chart.specs.Meaning.{NoneBelow, Sorted}
use Rattle.chart.specs.Steps.{Pos, Ascending}
use Rattle.floats.proofs.Tests.{split}

-- a member of a list
abbrev pub Mem : Float → List Float → Type 0
Mem x [] = ⊥
Mem x (y ∷ ys) = (x ≡ y) ⊎ Mem x ys

-- k is at most each of the list, and so for each of an ordered list and those after it
abbrev pub Over : Float → List Float → Type 0
Over k [] = Unit {0}
Over k (x ∷ xs) = Under k x × Over k xs

abbrev pub Ordered : List Float → Type 0
Ordered [] = Unit {0}
Ordered (x ∷ xs) = Over x xs × Ordered xs

pub pos_in : (xs : List Float) (i : ℕ) → Pos xs → i < length xs → T (positive (get_or xs i nan))
pos_in [] i p h = absurd (omega arith)
pos_in (x ∷ xs) zero p h = p.0
pos_in (x ∷ xs) (suc i) p h = pos_in xs i p.1 (le_of_suc-le-suc h)

over_trans : (j k : Float) (xs : List Float) → Under j k → Over k xs → Over j xs
over_trans j k [] h o = tt
over_trans j k (x ∷ xs) h o = (under_trans j k x h o.0, over_trans j k xs h o.1)

-- ---- insertion
insert_pos : (x : Float) (ys : List Float) → T (positive x) → Pos ys → Pos (insert x ys)
unfolding insert
insert_pos x [] p q = (p, tt)
insert_pos x (y ∷ ys) p q =
    let r = insert_pos x ys p q.1 in
    split (x ≺ y) (λ t. rw t (p, q)) (λ t. rw t (q.0, r))

insert_over : (k x : Float) (ys : List Float) → Under k x → Over k ys → Over k (insert x ys)
unfolding insert
insert_over k x [] h o = (h, tt)
insert_over k x (y ∷ ys) h o =
    let r = insert_over k x ys h o.1 in
    split (x ≺ y) (λ t. rw t (h, o)) (λ t. rw t (o.0, r))

insert_ordered : (x : Float) (ys : List Float) → T (positive x) → Pos ys → Ordered ys → Ordered (insert x ys)
unfolding insert
insert_ordered x [] p q s = (tt, tt)
insert_ordered x (y ∷ ys) p q s =
    let r = insert_ordered x ys p q.1 s.1 in
    split (x ≺ y)
    (λ t. let u = under_of_lt x y p q.0 t in rw t ((u, over_trans x y ys u s.0), s))
    (λ t. rw t (insert_over y x ys (under_of_not_lt x y p q.0 t) s.0, r))

insert_same : (x : Float) (ys : List Float) → Permᴰ (insert x ys) (x ∷ ys)
unfolding insert
insert_same x [] = Permᴰ.refl (x ∷ [])
insert_same x (y ∷ ys) =
    let r = insert_same x ys in
    split (x ≺ y) (λ t. rw t (Permᴰ.refl (x ∷ y ∷ ys))) (λ t. rw t (Permᴰ.trans (Permᴰ.cons refl r) (Permᴰ.swap refl refl)))

insert_here : (x : Float) (ys : List Float) → Mem x (insert x ys)
unfolding insert
insert_here x [] = inl refl
insert_here x (y ∷ ys) =
    let r = insert_here x ys in
    split (x ≺ y) (λ t. rw t (inl refl)) (λ t. rw t (inr r))

insert_mem : (z x : Float) (ys : List Float) → Mem z ys → Mem z (insert x ys)
unfolding insert
insert_mem z x [] m = absurd m
insert_mem z x (y ∷ ys) (inl e) = split (x ≺ y) (λ t. rw t (inr (inl e))) (λ t. rw t (inl e))
insert_mem z x (y ∷ ys) (inr m) =
    let r = insert_mem z x ys m in
    split (x ≺ y) (λ t. rw t (inr (inr m))) (λ t. rw t (inr r))

mem_insert : (z x : Float) (ys : List Float) → Mem z (insert x ys) → (z ≡ x) ⊎ Mem z ys
unfolding insert
mem_insert z x [] (inl e) = inl e
mem_insert z x [] (inr m) = absurd m
mem_insert z x (y ∷ ys) m =
    let r = mem_insert z x ys in
    split (x ≺ y) (λ t. (rw t at m)) (λ t. elim (rw t at m) [ inl e ↦ inr (inl e) | inr n ↦ ⊎_map (λ e. e) inr (r n) ])

-- ---- one after the other
into_pos : (l xs : List Float) → Pos l → Pos xs → Pos (sorted_into l xs)
unfolding sorted_into
into_pos l [] p q = p
into_pos l (x ∷ xs) p q = into_pos (insert x l) xs (insert_pos x l q.0 p) q.1

into_ordered : (l xs : List Float) → Pos l → Pos xs → Ordered l → Ordered (sorted_into l xs)
unfolding sorted_into
into_ordered l [] p q s = s
into_ordered l (x ∷ xs) p q s = into_ordered (insert x l) xs (insert_pos x l q.0 p) q.1 (insert_ordered x l q.0 p s)

into_same : (l xs : List Float) → Permᴰ (sorted_into l xs) (l ++ xs)
unfolding sorted_into
into_same l [] = subst (λ (k : List Float). Permᴰ l k) (sym (append-nil l)) (Permᴰ.refl l)
into_same l (x ∷ xs) =
    Permᴰ.trans (into_same (insert x l) xs) (Permᴰ.trans (Permᴰ.append_right xs (insert_same x l)) (Permᴰ.symm (Permᴰ.middle x l xs)))

into_old : (z : Float) (l xs : List Float) → Mem z l → Mem z (sorted_into l xs)
unfolding sorted_into
into_old z l [] m = m
into_old z l (x ∷ xs) m = into_old z (insert x l) xs (insert_mem z x l m)

into_new : (z : Float) (l xs : List Float) → Mem z xs → Mem z (sorted_into l xs)
unfolding sorted_into
into_new z l [] m = absurd m
into_new z l (x ∷ xs) (inl e) = into_old z (insert x l) xs (subst (λ (w : Float). Mem w (insert x l)) (sym e) (insert_here x l))
into_new z l (x ∷ xs) (inr m) = into_new z (insert x l) xs m

mem_into : (z : Float) (l xs : List Float) → Mem z (sorted_into l xs) → Mem z l ⊎ Mem z xs
unfolding sorted_into
mem_into z l [] m = inl m
mem_into z l (x ∷ xs) m =
    elim (mem_into z (insert x l) xs m) [
      | inl n ↦ elim (mem_insert z x l n) [ inl e ↦ inr (inl e) | inr k ↦ inl k ]
      | inr n ↦ inr (inr n)
    ]

-- ---- the sorted list
pub sort_pos : (xs : List Float) → Pos xs → Pos (sort xs)
sort_pos xs p = into_pos [] xs tt p

pub sort_ordered : (xs : List Float) → Pos xs → Ordered (sort xs)
sort_ordered xs p = into_ordered [] xs tt p tt

pub sort_same : (xs : List Float) → Permᴰ (sort xs) xs
sort_same xs = into_same [] xs

pub sort_mem : (z : Float) (xs : List Float) → Mem z xs → Mem z (sort xs)
sort_mem z xs m = into_new z [] xs m

pub mem_sort : (z : Float) (xs : List Float) → Mem z (sort xs) → Mem z xs
mem_sort z xs m = elim (mem_into z [] xs m) [ inl n ↦ absurd n | inr n ↦ n ]

-- ---- as the float tests say it
pub not_lt_of_under : (x y : Float) → T (positive x) → T (positive y) → Under x y → y ≺ x ≡ false
unfolding lt
not_lt_of_under nan y p q h = absurd p
not_lt_of_under (inf s) y p q h = absurd p
not_lt_of_under (fin true m e) y p q h = absurd p
not_lt_of_under (fin false m e) nan p q h = absurd q
not_lt_of_under (fin false m e) (inf t) p q h = absurd q
not_lt_of_under (fin false m e) (fin true n d) p q h = absurd q
not_lt_of_under (fin false m e) (fin false n d) p q h = le-ltb (n * up d * down e) (m * up e * down d) h

none_below : (x : Float) (ys : List Float) → T (positive x) → Pos ys → Over x ys → NoneBelow x ys
none_below x [] p q o = tt
none_below x (y ∷ ys) p q o = (not_lt_of_under x y p q.0 o.0, none_below x ys p q.1 o.1)

pub sorted_of : (xs : List Float) → Pos xs → Ordered xs → Sorted xs
sorted_of [] p o = tt
sorted_of (x ∷ xs) p o = (none_below x xs p.0 p.1 o.0, sorted_of xs p.1 o.1)

pub sort_sorted : (xs : List Float) → Pos xs → Sorted (sort xs)
sort_sorted xs p = sorted_of (sort xs) (sort_pos xs p) (sort_ordered xs p)

-- ---- and back: a list that ascends stays so when a value is put in its place
over_of : (x : Float) (ys : List Float) → T (positive x) → Pos ys → NoneBelow x ys → Over x ys
over_of x [] p q n = tt
over_of x (y ∷ ys) p q n = (under_of_not_lt y x q.0 p n.0, over_of x ys p q.1 n.1)

pub ordered_of : (xs : List Float) → Pos xs → Sorted xs → Ordered xs
ordered_of [] p s = tt
ordered_of (x ∷ xs) p s = (over_of x xs p.0 p.1 s.0, ordered_of xs p.1 s.1)

pub ascending_insert : (x : Float) (ys : List Float) → T (positive x) → Ascending ys → Ascending (insert x ys)
ascending_insert x ys p a =
    let q = insert_pos x ys p a.positives in
    record {
      positives = q;
      sorted = sorted_of (insert x ys) q (insert_ordered x ys p a.positives (ordered_of ys a.positives a.sorted));
    }
