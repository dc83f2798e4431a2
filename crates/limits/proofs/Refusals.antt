-- The laws of the numbers: a table is read back at the number of a refusal. Assumes nothing.
use mathlib.Core.Path.{◌≡◌, refl, sym, ap, ◌∙◌}
use mathlib.Core.List.{[], ◌∷◌}
use Prim.Native.Nat.{ℕ}
use native.Mathlib.Omega.{arith}
use Rattle.std.specs.Prelude.{Result, Ok, Err}
use Rattle.std.proofs.Common.{get_or}
use Rattle.limits.specs.Checks.{none}
use Rattle.limits.specs.Refusals.{number, Numbers, outcome_with}
use Rattle.limits.specs.declared.Refusal.{Refusal}
use Rattle.limits.specs.declared.Refusal.TheVariants as why

-- The refusal with a number; 0 and 14 are those of none.
with_number : ℕ → Refusal
with_number n =
    get_or
    (why.Malformed ∷ why.ShortColumn ∷ why.OutOfBounds ∷ why.BookClosed ∷ why.BookFull ∷ why.Price ∷ why.Spot ∷ why.Strike
    ∷ why.Expiry ∷ why.Rate ∷ why.Volatility ∷ why.SolverNotFinite ∷ why.NotBracketed ∷ why.NoConvergence ∷ why.Malformed
    ∷ why.ShortBuffer ∷ why.TooManyStrikes ∷ why.TooManyExpiries ∷ why.NoSurface ∷ why.StrikeRead ∷ why.ExpiryRead ∷ why.Malformed ∷ [])
    n why.Malformed

back : (a : Refusal) → with_number (number a) ≡ a
unfolding with_number
back why.ShortColumn = refl
back why.OutOfBounds = refl
back why.BookClosed = refl
back why.BookFull = refl
back why.Price = refl
back why.Spot = refl
back why.Strike = refl
back why.Expiry = refl
back why.Rate = refl
back why.Volatility = refl
back why.SolverNotFinite = refl
back why.NotBracketed = refl
back why.NoConvergence = refl
back why.ShortBuffer = refl
back why.TooManyStrikes = refl
back why.TooManyExpiries = refl
back why.NoSurface = refl
back why.StrikeRead = refl
back why.ExpiryRead = refl
back why.Malformed = refl

pub different : (a b : Refusal) → number a ≡ number b → a ≡ b
different a b e = sym (back a) ∙ (ap with_number e ∙ back b)

pub some : (a : Refusal) → number a ≡ none → ⊥
unfolding with_number
some a e =
    let m : a ≡ why.Malformed = sym (back a) ∙ ap with_number e in
    let last : number a ≡ 21 = ap number m in
    omega arith

pub numbers : Numbers
numbers = record { different = different; some = some }

-- nothing of an answer is lost in its reading
pub outcome_read : {T : Type 0} (zeros : T) (a b : Result T Refusal) → outcome_with zeros a ≡ outcome_with zeros b → a ≡ b
outcome_read zeros (Ok x) (Ok y) e = cc
outcome_read zeros (Ok x) (Err b) e = cc
outcome_read zeros (Err a) (Ok y) e = cc
outcome_read zeros (Err a) (Err b) e = let n : number a ≡ number b = cc in cc (different a b n)
