-- How many lines an input has, and how long the answers are. Assumes nothing.
use Rattle.std.specs.Prelude.{Option}
use mathlib.Core.Path.{◌≡◌, refl, ap, ◌∙◌}
use mathlib.Core.Bool.{Bool, cond}
use mathlib.Core.List.{List, [], ◌∷◌, ◌++◌, map}
use Prim.Native.Nat.{ℕ, ◌+◌, ◌*◌, ◌≤◌}
use native.Mathlib.Omega.{arith}
use lib.Dec.{eqb}
use lib.ListN.{length, length-append, length-map}
use lib.Ieee.{Float}
use Rattle.floats.proofs.Tests.{by}
use Rattle.hexlines.specs.Hex.{answer_line, digits}
use Rattle.hexlines.specs.Frames.{frame_of}
use Rattle.hexlines.specs.Lines.{unended, lines_after, lines}
use Rattle.hexlines.specs.Session.{Told, answers, output}
use Rattle.hexlines.specs.declared.Frame.{Frame}

pub answer_size : (n : ℕ) (x : Float) → length (answer_line n x) ≡ 19
unfolding answer_line digits
answer_size n x = refl

-- Each line has a byte of its own, its line feed if no other.
pub lines_room : (p bs : List ℕ) → length (lines_after p bs) ≤ length p + length bs
unfolding lines_after unended
lines_room [] [] = omega arith
lines_room (x ∷ p) [] = omega arith
lines_room p (c ∷ bs) =
    by (λ (ls : List (List ℕ)). length ls ≤ length p + length (c ∷ bs)) (λ (q : Bool). cond q (p ∷ lines_after [] bs) (lines_after (p ++ c ∷ []) bs)) (eqb c 10)
    (λ _. omega (arith, lines_room [] bs))
    (λ _. omega (arith, simp length-append at (lines_room (p ++ c ∷ []) bs)))

module _ {B : Type 0} (hear : B → Option Frame → Told B) where
  answers_size : (b : B) (fs : List (Option Frame)) → length (answers hear b fs) ≡ 19 * length fs
  unfolding answers
  answers_size b [] = refl
  answers_size b (f ∷ fs) =
      let h = hear b f in
      let line = answer_line h.number h.value in
      rw (length-append line (answers hear h.book fs), answer_size h.number h.value, answers_size h.book fs) (omega arith)

  pub output_size : (b : B) (input : List ℕ) → length (output hear b input) ≡ 19 * length (lines input)
  output_size b input = answers_size b (map frame_of (lines input)) ∙ ap (λ (n : ℕ). 19 * n) (length-map (lines input) frame_of)

  pub output_room : (b : B) (input : List ℕ) → length (output hear b input) ≤ 19 * length input
  output_room b input = rw (output_size b input) (omega (arith, lines_room [] input))
