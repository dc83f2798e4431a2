-- Document 01, 'Tables': "E[i] is the f64 nearest 1/i!, i 0 to 13; L[i] the f64 nearest 1/(2i+1), i 0 to 10; each rule proved over its table."
use Rattle.std.specs.Prelude.{◌≡◌, List, ℕ, zero, suc, ◌+◌, ◌-◌, ◌*◌, ◌^◌, ◌≤◌, ◌<◌, T, pos, nat_abs, ◌*ℤ◌, ◌-ℤ◌, get_or, length, Float}
use Rattle.std.specs.Float.{nan, binary64}
use Rattle.std.specs.Float.Ieee.{fits}
use Rattle.std.specs.Float.Ieee.Positive.{positive}
use Rattle.floats.specs.Operators.{decimal, ◌⊕◌, ◌⊗◌}
use Rattle.floats.specs.Values.{finite}
use Rattle.floats.specs.Wholes.{whole_of}

unfoldable pub factorial : ℕ → ℕ
factorial zero = 1
factorial (suc n) = suc n * factorial n

abbrev pub odd_number : ℕ → ℕ
odd_number i = 2 * i + 1

-- The entries, with the library's rounding for "nearest".
unfoldable pub E : ℕ → Float
unfolding factorial
E i = decimal 1 (factorial i)

unfoldable pub L : ℕ → Float
L i = decimal 1 (odd_number i)

-- "i 0 to 13", "i 0 to 10": the last entry of each table. How far a sum goes is said where the sum is: `exp_degree`, `ln_degree`.
abbrev pub last_e : ℕ
last_e = 13

abbrev pub last_l : ℕ
last_l = 10

-- ---- the rule, in whole numbers
-- How far y is from 1 / d: the distance times d, over 2^1074.
unfoldable pub miss : ℕ → Float → ℕ
miss d y = nat_abs (whole_of y *ℤ pos d -ℤ pos (2 ^ 1074))

-- x is the f64 nearest to 1 / d: an f64 above 0, and every other finite f64 misses by more.
pub record NearestReciprocal (d : ℕ) (x : Float) : Type 0 where
  pub held : T (fits binary64 x)
  pub sign : T (positive x)
  pub nearer : (y : Float) → T (fits binary64 y) → T (finite y) → (y ≡ x → ⊥) → miss d x < miss d y

-- Each rule over its definition.
pub record Rules : Type 0 where
  pub nearest_E : (i : ℕ) → i ≤ last_e → NearestReciprocal (factorial i) (E i)
  pub nearest_L : (i : ℕ) → i ≤ last_l → NearestReciprocal (odd_number i) (L i)

-- The entries of an array as a table.
abbrev pub entry_of : List Float → ℕ → Float
entry_of array i = get_or array i nan

-- The rule over an array of the code: it ends with its entry `last`, and each of its entries is the f64 nearest to 1 over entry i's divisor.
pub record Ruled (divisor : ℕ → ℕ) (last : ℕ) (array : List Float) : Type 0 where
  pub whole : length array ≡ suc last
  pub nearest : (i : ℕ) → i < length array → NearestReciprocal (divisor i) (entry_of array i)

-- ---- the sum over a table
-- "p starts at E[13] and for i from 12 down to 0 becomes p×r + E[i]": p after n rounds, round n being the one with i = degree - 1 - n.
unfoldable pub horner : (ℕ → Float) → ℕ → Float → ℕ → Float
horner table degree x zero = table degree
horner table degree x (suc n) = horner table degree x n ⊗ x ⊕ table (degree - 1 - n)

-- After all rounds.
abbrev pub polynomial : (ℕ → Float) → ℕ → Float → Float
polynomial table degree x = horner table degree x degree
