-- What is written is what is read: digits, numbers, floats, frames, answers. Assumes nothing.
use Rattle.std.specs.Prelude.{Some}
use Rattle.std.proofs.lemmas.List.Folds.{list_all-append}
use mathlib.Core.Path.{◌≡◌, refl, sym, ap, ◌∙◌}
use mathlib.Core.Bool.{Bool, true, false, cond, ◌&&◌, and-true}
use mathlib.Core.List.{List, [], ◌∷◌, ◌++◌}
use Prim.Native.Nat.{ℕ, zero, suc, ◌+◌, ◌-◌, ◌*◌, ◌/◌, ◌%◌, ◌^◌, ◌<◌, ◌≤◌}
use native.Mathlib.Nat.{pow-succ', one-le-pow, mod-lt, mod-eq_of_lt, mod-one, mul-one, add-zero, zero-add, not-suc-le-zero, le_of_suc-le-suc}
use native.Mathlib.Omega.{arith}
use lib.Arith.{mod-mul}
use lib.Dec.{leb, eqb, lit<}
use borrow.Author.Tests.{leb-true, leb-false, le-leb, lt-leb}
use lib.ListN.{length, get_or, take, drop, length-append}
use lib.Seq.{take_at, drop_at, drop-drop, drop-append-add}
use lib.Ieee.{Float, nan, binary64, fits, of_bits, to_bits}
use lib.Ieee.Bits.{of_bits-to_bits, to_bits-lt}
use Rattle.floats.proofs.Tests.{by, holds, and_left, and_right}
use Rattle.hexlines.specs.Hex.{between, is_digit, digit_value, all_digits, value_after, value, float, digit, digits, answer_line}
use Rattle.hexlines.specs.Frames.{is_frame, frame_of, floats_of, words, line_of, encode}
use Rattle.hexlines.specs.Claims.{all_fit}
use Rattle.hexlines.specs.declared.Frame.{Frame}
use Rattle.hexlines.specs.declared.Frame.TheVariants.{Open, Call, Put, Vol, Read}
use Rattle.hexlines.proofs.Digits.{above, below}

-- ---- a digit

low_digit : (d : ℕ) → d ≤ 9 → between "0" "9" (48 + d) ≡ true
unfolding between
low_digit d h = simp (le-leb 48 (48 + d) (omega arith), le-leb (48 + d) 57 (omega arith))

high_digit : (d : ℕ) → 9 < d → d < 16 → between "A" "F" (65 + (d - 10)) ≡ true
unfolding between
high_digit d h k = simp (le-leb 65 (65 + (d - 10)) (omega arith), le-leb (65 + (d - 10)) 70 (omega arith))

no_low_digit : (c : ℕ) → 57 < c → between "0" "9" c ≡ false
unfolding between
no_low_digit c h = simp (le-leb 48 c (omega arith), lt-leb c 57 h)

pub digit_read : (d : ℕ) → d < 16 → (is_digit (digit d) ≡ true) × (digit_value (digit d) ≡ d)
unfolding is_digit digit_value digit
digit_read d h =
    by (λ (c : ℕ). (is_digit c ≡ true) × (digit_value c ≡ d)) (λ (t : Bool). cond t (48 + d) (65 + (d - 10))) (leb d 9)
    (λ t. (simp (low_digit d (leb-true d 9 t)), simp (low_digit d (leb-true d 9 t)) (omega arith)))
    (λ t.
    let k = leb-false d 9 t in
    let n = no_low_digit (65 + (d - 10)) (omega arith) in
    (simp (n, high_digit d k h), simp (n, high_digit d k h) (omega arith)))

-- Only upper-case digits count: each is the digit of its value.
pub digit_upper : (c : ℕ) → is_digit c ≡ true → digit (digit_value c) ≡ c
unfolding is_digit digit_value digit
digit_upper c e =
    by (λ (v : ℕ). digit v ≡ c) (λ (t : Bool). cond t (c - 48) (cond (between "A" "F" c) (10 + (c - 65)) 0)) (between "0" "9" c)
    (λ t.
    let l = above "0" "9" c t in
    let k = below "0" "9" c t in
    simp (le-leb (c - 48) 9 (omega arith)) (omega arith))
    (λ t.
    let u : between "A" "F" c ≡ true = rw t at e in
    let l = above "A" "F" c u in
    let k = below "A" "F" c u in
    simp (u, lt-leb (10 + (c - 65)) 9 (omega arith)) (omega arith))

-- ---- numbers

regroup : (u q p r : ℕ) → (16 * u + q) * p + r ≡ u * (16 * p) + (q * p + r)
regroup u q p r = omega arith

value_written : (k u v : ℕ) → value_after u (digits k v) ≡ u * 16 ^ k + v % 16 ^ k
unfolding value_after digits
value_written zero u v = rw (mul-one, mod-one, add-zero)
value_written (suc k) u v =
    let q = v / 16 ^ k % 16 in
    let d : digit_value (digit q) ≡ q = (digit_read q (mod-lt (v / 16 ^ k) (lit< tt))).1 in
    let m : v % 16 ^ suc k ≡ q * 16 ^ k + v % 16 ^ k = rw pow-succ' (mod-mul v (lit< tt) (one-le-pow k 16 (lit< tt))) in
    ap (λ (z : ℕ). value_after (16 * u + z) (digits k v)) d ∙ value_written k (16 * u + q) v ∙ regroup u q (16 ^ k) (v % 16 ^ k) ∙ rw (m, pow-succ')

pub digits_length : (k v : ℕ) → length (digits k v) ≡ k
unfolding digits
digits_length zero v = refl
digits_length (suc k) v = ap suc (digits_length k v)

digits_all : (k v : ℕ) → all_digits (digits k v) ≡ true
unfolding all_digits digits
digits_all zero v = refl
digits_all (suc k) v = rw ((digit_read (v / 16 ^ k % 16) (mod-lt (v / 16 ^ k) (lit< tt))).0, digits_all k v)

all_append : (xs ys : List ℕ) → all_digits xs ≡ true → all_digits (xs ++ ys) ≡ all_digits ys
unfolding all_digits
all_append xs ys e = rw (list_all-append, e)

-- The digits of a float's bits are read as that float.
float_written : (x : Float) → fits binary64 x ≡ true → of_bits binary64 (value (digits 16 (to_bits binary64 x))) ≡ x
float_written x e =
    let f = holds (fits binary64 x) e in
    let s : to_bits binary64 x < 16 ^ 16 = to_bits-lt binary64 x f in
    ap (of_bits binary64) (value_written 16 0 (to_bits binary64 x) ∙ zero-add _ ∙ mod-eq_of_lt s) ∙ of_bits-to_bits binary64 x f

-- ---- lines: a kind's two digits, then the digits of floats

words_length : (xs : List Float) → length (words xs) ≡ 16 * length xs
unfolding words
words_length [] = refl
words_length (x ∷ xs) =
    rw (length-append (digits 16 (to_bits binary64 x)) (words xs), digits_length 16 (to_bits binary64 x), words_length xs) (omega arith)

words_all : (xs : List Float) → all_digits (words xs) ≡ true
unfolding words all_digits
words_all [] = refl
words_all (x ∷ xs) = all_append (digits 16 (to_bits binary64 x)) (words xs) (digits_all 16 (to_bits binary64 x)) ∙ words_all xs

-- A line is of one kind and of one number of floats.
frame_is : (k n kind : ℕ) (xs : List Float) → is_frame k n (line_of kind xs) ≡ (eqb (2 + 16 * length xs) (2 + 16 * n) && eqb (kind % 256) k)
unfolding is_frame
frame_is k n kind xs =
    let l : length (line_of kind xs) ≡ 2 + 16 * length xs = rw (length-append, digits_length, words_length) in
    let a : all_digits (line_of kind xs) ≡ true = all_append (digits 2 kind) (words xs) (digits_all 2 kind) ∙ words_all xs in
    let t : take 2 (line_of kind xs) ≡ digits 2 kind = take_at (digits 2 kind) (words xs) 2 (digits_length 2 kind) in
    rw (l, a, t, value_written 2 0 kind, zero-add, and-true)

word_at : (i : ℕ) (xs : List Float) (d : Float) → i < length xs → take 16 (drop (16 * i) (words xs)) ≡ digits 16 (to_bits binary64 (get_or xs i d))
unfolding words
word_at i [] d h = absurd (not-suc-le-zero h)
word_at zero (x ∷ xs) d h = take_at (digits 16 (to_bits binary64 x)) (words xs) 16 (digits_length 16 (to_bits binary64 x))
word_at (suc i) (x ∷ xs) d h =
    let ds = digits 16 (to_bits binary64 x) in
    let e : 16 * suc i ≡ length ds + 16 * i = rw (digits_length 16 (to_bits binary64 x)) (omega arith) in
    ap (take 16) (ap (λ (n : ℕ). drop n (ds ++ words xs)) e ∙ drop-append-add ds (words xs) (16 * i)) ∙ word_at i xs d (le_of_suc-le-suc h)

fit_at : (i : ℕ) (xs : List Float) (d : Float) → i < length xs → all_fit xs ≡ true → fits binary64 (get_or xs i d) ≡ true
unfolding all_fit
fit_at i [] d h e = absurd (not-suc-le-zero h)
fit_at zero (x ∷ xs) d h e = and_left (fits binary64 x) (all_fit xs) e
fit_at (suc i) (x ∷ xs) d h e = fit_at i xs d (le_of_suc-le-suc h) (and_right (fits binary64 x) (all_fit xs) e)

float_is : (i kind : ℕ) (xs : List Float) (d : Float) → i < length xs → all_fit xs ≡ true → float i (line_of kind xs) ≡ get_or xs i d
unfolding float
float_is i kind xs d h e =
    ap (λ (l : List ℕ). of_bits binary64 (value (take 16 l)))
    (sym (drop-drop (16 * i) 2 (line_of kind xs)) ∙ ap (drop (16 * i)) (drop_at (digits 2 kind) (words xs) 2 (digits_length 2 kind)))
    ∙ ap (λ (l : List ℕ). of_bits binary64 (value l)) (word_at i xs d h)
    ∙ float_written (get_or xs i d) (fit_at i xs d h e)

pub frame_read : (f : Frame) → all_fit (floats_of f) ≡ true → frame_of (encode f) ≡ Some f
unfolding encode floats_of frame_of
frame_read (Open x y) e = simp (frame_is, float_is 0 0x10 (x ∷ y ∷ []) nan (lit< tt) e, float_is 1 0x10 (x ∷ y ∷ []) nan (lit< tt) e)
frame_read (Call x y z) e =
    let l = x ∷ y ∷ z ∷ [] in
    simp (frame_is, float_is 0 0x11 l nan (lit< tt) e, float_is 1 0x11 l nan (lit< tt) e, float_is 2 0x11 l nan (lit< tt) e)
frame_read (Put x y z) e =
    let l = x ∷ y ∷ z ∷ [] in
    simp (frame_is, float_is 0 0x12 l nan (lit< tt) e, float_is 1 0x12 l nan (lit< tt) e, float_is 2 0x12 l nan (lit< tt) e)
frame_read (Vol x y z) e =
    let l = x ∷ y ∷ z ∷ [] in
    simp (frame_is, float_is 0 0x13 l nan (lit< tt) e, float_is 1 0x13 l nan (lit< tt) e, float_is 2 0x13 l nan (lit< tt) e)
frame_read (Read x y) e = simp (frame_is, float_is 0 0x20 (x ∷ y ∷ []) nan (lit< tt) e, float_is 1 0x20 (x ∷ y ∷ []) nan (lit< tt) e)

-- ---- answers

pub value_read : (n : ℕ) (x : Float) → fits binary64 x ≡ true → float 0 (answer_line n x) ≡ x
unfolding float answer_line
value_read n x e =
    let ds = digits 16 (to_bits binary64 x) in
    ap (λ (l : List ℕ). of_bits binary64 (value l)) (take_at ds (10 ∷ []) 16 (digits_length 16 (to_bits binary64 x))) ∙ float_written x e

pub number_read : (n : ℕ) (x : Float) → n < 100 → 10 * (get_or (answer_line n x) 0 0 - 48) + (get_or (answer_line n x) 1 0 - 48) ≡ n
unfolding answer_line
number_read n x h = omega arith
