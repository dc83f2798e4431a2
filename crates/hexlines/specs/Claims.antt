-- What is proved of these definitions beside the contracts of the code (proofs/Claims.antt).
use Rattle.std.specs.Prelude.{◌≡◌, ◌⊎◌, Bool, true, not, List, [], ◌∷◌, ◌++◌, ℕ, ◌+◌, ◌-◌, ◌*◌, ◌≤◌, ◌<◌, length, get_or, Float, Option, Some}
use Rattle.std.specs.List.{list_all}
use Prim.Native.Char.{code}
use Rattle.std.specs.Float.{binary64}
use Rattle.std.specs.Float.Ieee.{fits, is_nan}
use Rattle.hexlines.specs.Hex.{is_digit, digit_value, digit, float, answer_line}
use Rattle.hexlines.specs.Frames.{frame_of, encode, floats_of}
use Rattle.hexlines.specs.Lines.{lines, no_feed, no_feeds, fed}
use Rattle.hexlines.specs.Session.{Told, output, book_left, run, joined}
use Rattle.hexlines.specs.declared.Frame.{Frame}

-- Of the program, over any book.
pub record Streamed {B : Type 0} (hear : B → Option Frame → Told B) : Type 0 where
  -- However the input is cut into chunks, what is written is the answers to the frames of its lines. The book left is the one that heard them all,
  -- and nothing of a line is left over.
  pub chunks : (b : B) (cs : List (List ℕ)) →
      run hear b [] cs ≡ record { book = book_left hear b (joined cs); part = []; text = output hear b (joined cs) }
  -- "Each line gets one line": 19 bytes each.
  pub sizes : (b : B) (input : List ℕ) → length (output hear b input) ≡ 19 * length (lines input)
  -- So a buffer of 19 bytes for each byte of the input holds the output.
  pub room : (b : B) (input : List ℕ) → length (output hear b input) ≤ 19 * length input

-- Of lines: those written, each with its line feed, are those read, and the last may lack its line feed. No line has a line feed in it, and with
-- their line feeds the lines are the input, but for a last line feed that it lacks.
pub record Split : Type 0 where
  pub fed_lines : (ls : List (List ℕ)) → no_feeds ls ≡ true → lines (fed ls) ≡ ls
  pub last_unfed : (ls : List (List ℕ)) (c : ℕ) (cs : List ℕ) → no_feeds ls ≡ true → no_feed (c ∷ cs) ≡ true →
      lines (fed ls ++ c ∷ cs) ≡ ls ++ (c ∷ cs) ∷ []
  pub no_feeds_lem : (input : List ℕ) → no_feeds (lines input) ≡ true
  pub nothing_lost : (input : List ℕ) → (fed (lines input) ≡ input) ⊎ (fed (lines input) ≡ input ++ code "\n" ∷ [])

unfoldable pub all_fit : List Float → Bool
all_fit xs = list_all (fits binary64) xs

unfoldable pub no_nan : List Float → Bool
no_nan xs = list_all (λ x. not (is_nan x)) xs

-- Of digits, frames and answers: what is written is what is read. (Every f64 fits binary64.)
pub record Returns : Type 0 where
  pub digits : (d : ℕ) → d < 16 → (is_digit (digit d) ≡ true) × (digit_value (digit d) ≡ d)
  pub upper : (c : ℕ) → is_digit c ≡ true → digit (digit_value c) ≡ c
  pub frames : (f : Frame) → all_fit (floats_of f) ≡ true → frame_of (encode f) ≡ Some f
  -- no other line says a frame, but for the many patterns of a not-a-number
  pub one_line : (line : List ℕ) (f : Frame) → frame_of line ≡ Some f → no_nan (floats_of f) ≡ true → encode f ≡ line
  pub values : (n : ℕ) (x : Float) → fits binary64 x ≡ true → float 0 (answer_line n x) ≡ x
  pub numbers : (n : ℕ) (x : Float) → n < 100 →
      10 * (get_or (answer_line n x) 0 0 - code "0") + (get_or (answer_line n x) 1 0 - code "0") ≡ n
