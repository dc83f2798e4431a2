-- Words of 16 hexadecimal digits, a byte behind each.
use Rattle.std.specs.Prelude.{List, ℕ, leb, length, take, if◌then◌else◌}
use Rattle.hexlines.specs.Hex.{value}

-- The word that a text begins with; 0 where no 16 bytes are left.
abbrev pub first_word : List ℕ → ℕ
first_word text = if leb 16 (length text) then value (take 16 text) else 0
