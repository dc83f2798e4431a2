-- Document 01, opening: "All floats are binary64 of IEEE 754, each operation rounded once; a decimal constant is the nearest such float."
-- The operators have symbols of their own: `+`, `<`, `≤` and `≡` keep the library's meaning everywhere.
use Rattle.std.specs.Prelude.{ℕ, Bool, false, Float}
use Rattle.std.specs.Float.{binary64}
use Rattle.std.specs.Float.Ieee.{round, add, sub, mul, div, lt, le}

-- The float nearest to n / d, a tie going to the even one: what a decimal constant means.
abbrev pub decimal : ℕ → ℕ → Float
decimal n d = round binary64 false n d

-- Sum, difference, product and quotient, each rounded once. They associate to the left, as in Rust.
infixl 65 ◌⊕◌
infixl 65 ◌⊖◌
infixl 70 ◌⊗◌
infixl 70 ◌⊘◌
abbrev pub ◌⊕◌ : Float → Float → Float
x ⊕ y = add binary64 x y

abbrev pub ◌⊖◌ : Float → Float → Float
x ⊖ y = sub binary64 x y

abbrev pub ◌⊗◌ : Float → Float → Float
x ⊗ y = mul binary64 x y

abbrev pub ◌⊘◌ : Float → Float → Float
x ⊘ y = div binary64 x y

-- The tests `x < y` and `x <= y`: false beside a not-a-number, and -0.0 equals 0.0.
infix 50 ◌≺◌
infix 50 ◌≼◌
abbrev pub ◌≺◌ : Float → Float → Bool
x ≺ y = lt x y

abbrev pub ◌≼◌ : Float → Float → Bool
x ≼ y = le x y
