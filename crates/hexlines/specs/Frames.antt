-- Document 01, 'Hexadecimal lines': what a line says.
use Rattle.std.specs.Prelude.{Bool, ◌&&◌, List, [], ◌∷◌, ◌++◌, ℕ, ◌+◌, ◌*◌, eqb, length, take, Float, Option, Some, None, if◌then◌else◌}
use Rattle.std.specs.Float.{binary64}
use Rattle.std.specs.Float.Ieee.{to_bits}
use Rattle.hexlines.specs.Hex.{all_digits, value, float, digits}
use Rattle.hexlines.specs.declared.Frame.{Frame}
use Rattle.hexlines.specs.declared.Frame.TheVariants.{Open, Call, Put, Vol, Read}

-- Check 21 does not hold of a line, and it is of this kind: two digits of kind and 16 for each of n floats, no other character, the kind's own digits.
unfoldable pub is_frame : ℕ → ℕ → List ℕ → Bool
is_frame kind n line = eqb (length line) (2 + 16 * n) && all_digits line && eqb (value (take 2 line)) kind

-- "10: spot, rate (a fresh book). 11 call price, 12 put price, 13 volatility: strike, expiry, value. 20: strike, expiry (builds, reads)."
-- A line of wrong length, of unknown kind or with a character that isn't an upper-case hexadecimal digit says no frame: check 21. Nor does an empty line.
unfoldable pub frame_of : List ℕ → Option Frame
frame_of line =
    if is_frame 0x10 2 line then Some (Open (float 0 line) (float 1 line)) else
    (if is_frame 0x11 3 line then Some (Call (float 0 line) (float 1 line) (float 2 line)) else
    (if is_frame 0x12 3 line then Some (Put (float 0 line) (float 1 line) (float 2 line)) else
    (if is_frame 0x13 3 line then Some (Vol (float 0 line) (float 1 line) (float 2 line)) else
    (if is_frame 0x20 2 line then Some (Read (float 0 line) (float 1 line)) else None))))

-- ---- the way back, which no code takes: the line that says a frame. `Claims` has frame_of (encode f) ≡ Some f.

-- 16 digits for each float.
unfoldable pub words : List Float → List ℕ
words [] = []
words (x ∷ xs) = digits 16 (to_bits binary64 x) ++ words xs

abbrev pub line_of : ℕ → List Float → List ℕ
line_of kind xs = digits 2 kind ++ words xs

unfoldable pub encode : Frame → List ℕ
encode (Open spot rate) = line_of 0x10 (spot ∷ rate ∷ [])
encode (Call strike expiry price) = line_of 0x11 (strike ∷ expiry ∷ price ∷ [])
encode (Put strike expiry price) = line_of 0x12 (strike ∷ expiry ∷ price ∷ [])
encode (Vol strike expiry volatility) = line_of 0x13 (strike ∷ expiry ∷ volatility ∷ [])
encode (Read strike expiry) = line_of 0x20 (strike ∷ expiry ∷ [])

unfoldable pub floats_of : Frame → List Float
floats_of (Open spot rate) = spot ∷ rate ∷ []
floats_of (Call strike expiry price) = strike ∷ expiry ∷ price ∷ []
floats_of (Put strike expiry price) = strike ∷ expiry ∷ price ∷ []
floats_of (Vol strike expiry volatility) = strike ∷ expiry ∷ volatility ∷ []
floats_of (Read strike expiry) = strike ∷ expiry ∷ []
