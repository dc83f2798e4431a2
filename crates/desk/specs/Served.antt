-- What the program holds after its reads, over `lines`' turns. Which bytes a read gives is not known here, nor what becomes of a write.
use Rattle.std.specs.Prelude.{ℕ, ◌≤◌, ◌<◌, ◌≡◌, Bool, true, false, List, [], ◌∷◌, ◌++◌, length, take, Result, Ok, Err}
use Rattle.std.specs.declared.ops.ControlFlow.{ControlFlow}
use Rattle.std.specs.declared.ops.ControlFlow.TheVariants.{Continue, Break}
use Rattle.protocol.specs.Turns.{Held, held_after}
use Rattle.protocol.specs.Claims.{Reads}
use Rattle.protocol.specs.declared.State.{State}

-- The part of the input that a read gave: the front of the buffer that it was read into, or none where it failed.
abbrev pub parts_of : {E : Type 0} → Result ℕ E → List ℕ → List (List ℕ)
parts_of (Ok count) input = take count input ∷ []
parts_of (Err why) input = []

-- What a turn leads to: the state that is held, and whether the program reads on.
abbrev pub state_in : ControlFlow State State → State
state_in (Continue s) = s
state_in (Break s) = s

abbrev pub goes_on : ControlFlow State State → Bool
goes_on (Continue s) = true
goes_on (Break s) = false

-- From h to h' by a turn on what a read gave, if it gave anything. The program reads on only where the read gave something.
pub record Heard (most : ℕ) (h : Held) (parts : List (List ℕ)) (h' : Held) (more : Bool) : Type 0 where
  pub turns : h' ≡ held_after h parts
  pub one : length parts ≤ 1
  pub reads_on : more ≡ true → (0 < length parts) × Reads most parts

-- From h to h' by turns, each of which gets what the last left: on the parts of earlier reads, every one of which gave something, and on what the
-- latest gave. So a read that gives nothing is the last.
pub record Served (most : ℕ) (h h' : Held) (more : Bool) : Type 0 where
  pub earlier : List (List ℕ)
  pub latest : List (List ℕ)
  pub turns : h' ≡ held_after h (earlier ++ latest)
  pub gave : Reads most earlier
  pub one : length latest ≤ 1
  pub reads_on : more ≡ true → Reads most latest
