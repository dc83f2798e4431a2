-- A good line is its frame's own line: its digits are those of the numbers that they write. Assumes nothing.
use Rattle.std.specs.Prelude.{Option, Some, None}
use Rattle.std.specs.List.{list_all}
use Rattle.std.proofs.lemmas.List.Folds.{list_all-append}
use mathlib.Core.Path.{◌≡◌, refl, sym, subst, ap, ◌∙◌}
use mathlib.Core.Bool.{Bool, true, false, not, cond, ◌&&◌}
use mathlib.Core.List.{List, [], ◌∷◌, ◌++◌}
use Prim.Native.Nat.{ℕ, zero, suc, ◌+◌, ◌*◌, ◌/◌, ◌%◌, ◌^◌, ◌<◌, ◌≤◌}
use native.Mathlib.Omega.{arith}
use lib.Arith.{digits_div}
use lib.Dec.{eqb}
use borrow.Author.Tests.{eqb-true, not-true}
use lib.ListN.{length, take, drop, length-drop, take-append-drop, drop_of_length-le}
use lib.Seq.{length-take-le, drop-drop}
use lib.Ieee.{Float, binary64, is_nan, of_bits, to_bits}
use lib.Ieee.Bits.{to_bits-of_bits}
use Rattle.floats.proofs.Tests.{by, holds, and_left, and_right}
use Rattle.hexlines.specs.Hex.{is_digit, digit_value, all_digits, value_after, value, float, digit, digits}
use Rattle.hexlines.specs.Frames.{is_frame, frame_of, floats_of, words, line_of, encode}
use Rattle.hexlines.specs.Claims.{no_nan}
use Rattle.hexlines.specs.declared.Frame.{Frame}
use Rattle.hexlines.specs.declared.Frame.TheVariants.{Open, Call, Put, Vol, Read}
use Rattle.hexlines.proofs.Digits.{digit_small, value_parts, value_below}
use Rattle.hexlines.proofs.Backward.{digit_upper}

-- ---- numbers

-- A number's digits are those that it was read from.
digits_back : (u : ℕ) (cs : List ℕ) → all_digits cs ≡ true → digits (length cs) (value_after u cs) ≡ cs
unfolding digits value_after all_digits
digits_back u [] e = refl
digits_back u (c ∷ cs) e =
    let d = digit_value c in
    let n = length cs in
    let q : value_after (16 * u + d) cs / 16 ^ n ≡ 16 * u + d = rw (value_parts (16 * u + d) cs) (digits_div (16 * u + d) (value_below cs)) in
    let r : (16 * u + d) % 16 ≡ d = omega (arith, digit_small c) in
    let h : digit (value_after (16 * u + d) cs / 16 ^ n % 16) ≡ c =
    ap (λ (z : ℕ). digit (z % 16)) q ∙ ap digit r ∙ digit_upper c (and_left (is_digit c) (all_digits cs) e) in
    ap (λ (z : ℕ). z ∷ digits n (value_after (16 * u + d) cs)) h
    ∙ ap (λ (z : List ℕ). c ∷ z) (digits_back (16 * u + d) cs (and_right (is_digit c) (all_digits cs) e))

-- ---- parts of a line

all_parts : (n : ℕ) (l : List ℕ) → (all_digits (take n l) && all_digits (drop n l)) ≡ all_digits l
unfolding all_digits
all_parts n l = sym (list_all-append is_digit (take n l) (drop n l)) ∙ ap (list_all is_digit) (take-append-drop n l)

all_take : (n : ℕ) (l : List ℕ) → all_digits l ≡ true → all_digits (take n l) ≡ true
all_take n l e = and_left (all_digits (take n l)) (all_digits (drop n l)) (all_parts n l ∙ e)

all_drop : (n : ℕ) (l : List ℕ) → all_digits l ≡ true → all_digits (drop n l) ≡ true
all_drop n l e = and_right (all_digits (take n l)) (all_digits (drop n l)) (all_parts n l ∙ e)

-- n digits from m on are those of their number.
part_back : (n m : ℕ) (l : List ℕ) → all_digits l ≡ true → m + n ≤ length l → digits n (value (take n (drop m l))) ≡ take n (drop m l)
part_back n m l e h =
    let w = take n (drop m l) in
    let k : length w ≡ n = length-take-le n (drop m l) (rw length-drop (omega arith)) in
    ap (λ (z : ℕ). digits z (value w)) (sym k) ∙ digits_back 0 w (all_take n (drop m l) (all_drop m l e))

part_below : (l : List ℕ) (m : ℕ) → m + 16 ≤ length l → value (take 16 (drop m l)) < 16 ^ 16
part_below l m h =
    let w = take 16 (drop m l) in
    let k : length w ≡ 16 = length-take-le 16 (drop m l) (rw length-drop (omega arith)) in
    rw k at (value_below w)

-- ---- floats and frames

float_back : (i : ℕ) (l : List ℕ) → all_digits l ≡ true → 2 + 16 * i + 16 ≤ length l → is_nan (float i l) ≡ false →
    digits 16 (to_bits binary64 (float i l)) ≡ take 16 (drop (2 + 16 * i) l)
unfolding float
float_back i l e h n =
    let w = take 16 (drop (2 + 16 * i) l) in
    ap (digits 16) (to_bits-of_bits binary64 (value w) (part_below l (2 + 16 * i) h) (holds (not (is_nan (of_bits binary64 (value w)))) (ap not n)))
    ∙ part_back 16 (2 + 16 * i) l e h

-- The n floats from place i on.
abbrev floats : ℕ → ℕ → List ℕ → List Float
floats zero i l = []
floats (suc n) i l = float i l ∷ floats n (suc i) l

words_back : (n i : ℕ) (l : List ℕ) → all_digits l ≡ true → length l ≡ 2 + 16 * (i + n) → no_nan (floats n i l) ≡ true
    → words (floats n i l) ≡ drop (2 + 16 * i) l
unfolding words no_nan
words_back zero i l e h f = let k : length l ≤ 2 + 16 * i = omega arith in sym (drop_of_length-le l k)
words_back (suc n) i l e h f =
    let b = not (is_nan (float i l)) in
    let r = no_nan (floats n (suc i) l) in
    let j : 2 + 16 * i + 16 ≡ 2 + 16 * suc i = omega arith in
    ap (λ (z : List ℕ). z ++ words (floats n (suc i) l)) (float_back i l e (omega arith) (not-true (is_nan (float i l)) (and_left b r f)))
    ∙ ap (λ (z : List ℕ). take 16 (drop (2 + 16 * i) l) ++ z)
    (words_back n (suc i) l e (omega arith) (and_right b r f) ∙ ap (λ (z : ℕ). drop z l) (sym j) ∙ sym (drop-drop 16 (2 + 16 * i) l))
    ∙ take-append-drop 16 (drop (2 + 16 * i) l)

line_back : (kind n : ℕ) (l : List ℕ) → is_frame kind n l ≡ true → no_nan (floats n 0 l) ≡ true → line_of kind (floats n 0 l) ≡ l
unfolding is_frame
line_back kind n l t f =
    let a = eqb (length l) (2 + 16 * n) in
    let k = eqb (value (take 2 l)) kind in
    let p = and_left (a && all_digits l) k t in
    let size : length l ≡ 2 + 16 * n = eqb-true (length l) (2 + 16 * n) (and_left a (all_digits l) p) in
    let e = and_right a (all_digits l) p in
    let front : digits 2 kind ≡ take 2 l =
    ap (digits 2) (sym (eqb-true (value (take 2 l)) kind (and_right (a && all_digits l) k t))) ∙ part_back 2 0 l e (omega arith) in
    ap (λ (z : List ℕ). z ++ words (floats n 0 l)) front
    ∙ ap (λ (z : List ℕ). take 2 l ++ z) (words_back n 0 l e (omega arith) f)
    ∙ take-append-drop 2 l

own : (l : List ℕ) (g f : Frame) → (no_nan (floats_of g) ≡ true → encode g ≡ l) → Some g ≡ Some f → no_nan (floats_of f) ≡ true → encode f ≡ l
own l g f back e = let k : g ≡ f = cc in subst (λ (h : Frame). no_nan (floats_of h) ≡ true → encode h ≡ l) k back

pub one_line : (l : List ℕ) (f : Frame) → frame_of l ≡ Some f → no_nan (floats_of f) ≡ true → encode f ≡ l
unfolding frame_of encode floats_of
one_line l =
    let Own : Option Frame → Type 0 = λ o. (f : Frame) → o ≡ Some f → no_nan (floats_of f) ≡ true → encode f ≡ l in
    let x = float 0 l in
    let y = float 1 l in
    let z = float 2 l in
    let read : Bool → Option Frame = λ t. cond t (Some (Read x y)) None in
    let vol : Bool → Option Frame = λ t. cond t (Some (Vol x y z)) (read (is_frame 0x20 2 l)) in
    let put : Bool → Option Frame = λ t. cond t (Some (Put x y z)) (vol (is_frame 0x13 3 l)) in
    let call : Bool → Option Frame = λ t. cond t (Some (Call x y z)) (put (is_frame 0x12 3 l)) in
    by Own (λ (t : Bool). cond t (Some (Open x y)) (call (is_frame 0x11 3 l))) (is_frame 0x10 2 l) (λ t f. own l (Open x y) f (line_back 0x10 2 l t))
    (λ _. by Own call (is_frame 0x11 3 l) (λ t f. own l (Call x y z) f (line_back 0x11 3 l t))
    (λ _. by Own put (is_frame 0x12 3 l) (λ t f. own l (Put x y z) f (line_back 0x12 3 l t))
    (λ _. by Own vol (is_frame 0x13 3 l) (λ t f. own l (Vol x y z) f (line_back 0x13 3 l t))
    (λ _. by Own read (is_frame 0x20 2 l) (λ t f. own l (Read x y) f (line_back 0x20 2 l t)) (λ _ f e _. cc)))))
