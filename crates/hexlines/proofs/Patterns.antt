-- Which bit patterns are a not-a-number's. Assumes nothing.
use mathlib.Core.Path.{◌≡◌, refl, sym, subst, ◌∙◌}
use mathlib.Core.Bool.{true, not}
use Prim.Native.Nat.{ℕ, ◌%◌, ◌<◌, ◌≤◌}
use lib.Dec.{T}
use borrow.Author.Tests.{lt-ltb, le-ltb}
use lib.Ieee.{Float, nan, inf, fin, binary64, is_nan, nan_bits, of_bits, to_bits}
use lib.Ieee.Bits.{nan_bits_is, nan_bits_above}

-- There is one not-a-number, and it has one pattern.
nan_only : (x : Float) → is_nan x ≡ true → x ≡ nan
unfolding is_nan
nan_only nan e = refl
nan_only (inf s) e = absurd (subst T (sym e) tt)
nan_only (fin s m k) e = absurd (subst T (sym e) tt)

pub nan_pattern : (x : Float) → is_nan x ≡ true → to_bits binary64 x ≡ 0x7FF8000000000000
unfolding to_bits
nan_pattern x e = rw (nan_only x e)

-- With the sign off, a pattern above infinity's is a not-a-number's, and no other is.
pub above_is_nan : (n : ℕ) → 0x7FF0000000000000 < n % 0x8000000000000000 → of_bits binary64 n ≡ of_bits binary64 0x7FF8000000000000
unfolding of_bits
above_is_nan n h = nan_only (of_bits binary64 n) (sym (nan_bits_is binary64 n) ∙ nan_bits_above binary64 n ∙ lt-ltb _ _ h)

pub below_no_nan : (n : ℕ) → n % 0x8000000000000000 ≤ 0x7FF0000000000000 → T (not (nan_bits binary64 n))
below_no_nan n h = rw (nan_bits_above binary64 n, le-ltb _ _ h) tt
