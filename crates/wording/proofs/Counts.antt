-- Another count of words than a name's own asks nothing: each list by its length. Assumes nothing.
use mathlib.Core.Path.{◌≡◌, refl}
use Rattle.std.specs.Prelude.{ℕ, List, [], ◌∷◌, length, None}
use Rattle.blackscholes.specs.declared.OptionType.{OptionType}
use Rattle.wording.specs.Requests.{opening, price_offered, volatility_offered, build, read, money, option, ends}

pub opening_words : (xs : List ℕ) → (length xs ≡ 2 → ⊥) → opening xs ≡ None
opening_words [] other = refl
opening_words (s ∷ []) other = refl
opening_words (s ∷ r ∷ []) other = absurd (other refl)
opening_words (s ∷ r ∷ x ∷ xs) other = refl

pub price_words : (kind : OptionType) (xs : List ℕ) → (length xs ≡ 3 → ⊥) → price_offered kind xs ≡ None
price_words kind [] other = refl
price_words kind (k ∷ []) other = refl
price_words kind (k ∷ t ∷ []) other = refl
price_words kind (k ∷ t ∷ m ∷ []) other = absurd (other refl)
price_words kind (k ∷ t ∷ m ∷ x ∷ xs) other = refl

pub volatility_words : (xs : List ℕ) → (length xs ≡ 3 → ⊥) → volatility_offered xs ≡ None
volatility_words [] other = refl
volatility_words (k ∷ []) other = refl
volatility_words (k ∷ t ∷ []) other = refl
volatility_words (k ∷ t ∷ v ∷ []) other = absurd (other refl)
volatility_words (k ∷ t ∷ v ∷ x ∷ xs) other = refl

pub build_words : (xs : List ℕ) → (length xs ≡ 0 → ⊥) → build xs ≡ None
build_words [] other = absurd (other refl)
build_words (x ∷ xs) other = refl

pub read_words : (xs : List ℕ) → (length xs ≡ 2 → ⊥) → read xs ≡ None
read_words [] other = refl
read_words (k ∷ []) other = refl
read_words (k ∷ t ∷ []) other = absurd (other refl)
read_words (k ∷ t ∷ x ∷ xs) other = refl

pub money_words : (xs : List ℕ) → (length xs ≡ 1 → ⊥) → money xs ≡ None
money_words [] other = refl
money_words (t ∷ []) other = absurd (other refl)
money_words (t ∷ x ∷ xs) other = refl

pub option_words : (xs : List ℕ) → (length xs ≡ 6 → ⊥) → option xs ≡ None
option_words [] other = refl
option_words (p ∷ []) other = refl
option_words (p ∷ s ∷ []) other = refl
option_words (p ∷ s ∷ k ∷ []) other = refl
option_words (p ∷ s ∷ k ∷ t ∷ []) other = refl
option_words (p ∷ s ∷ k ∷ t ∷ r ∷ []) other = refl
option_words (p ∷ s ∷ k ∷ t ∷ r ∷ v ∷ []) other = absurd (other refl)
option_words (p ∷ s ∷ k ∷ t ∷ r ∷ v ∷ x ∷ xs) other = refl

pub ends_words : (xs : List ℕ) → (length xs ≡ 4 → ⊥) → ends xs ≡ None
ends_words [] other = refl
ends_words (p ∷ []) other = refl
ends_words (p ∷ k ∷ []) other = refl
ends_words (p ∷ k ∷ t ∷ []) other = refl
ends_words (p ∷ k ∷ t ∷ m ∷ []) other = absurd (other refl)
ends_words (p ∷ k ∷ t ∷ m ∷ x ∷ xs) other = refl
