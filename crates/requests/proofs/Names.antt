-- A name of six characters, from its reads. Assumes nothing.
use mathlib.Core.Path.{◌≡◌}
use mathlib.Core.List.{List, [], ◌∷◌}
use Prim.Native.Nat.{ℕ}
use lib.ListN.{length, get_or}
use Rattle.std.proofs.lemmas.Slice.Eq.{text_from_reads}

pub six : (name : List ℕ) (a b c d e f : ℕ) → length name ≡ 6 → get_or name 0 0 ≡ a → get_or name 1 0 ≡ b → get_or name 2 0 ≡ c → get_or name 3 0 ≡ d
    → get_or name 4 0 ≡ e → get_or name 5 0 ≡ f → name ≡ a ∷ b ∷ c ∷ d ∷ e ∷ f ∷ []
six name a b c d e f n p q r s t u = text_from_reads name (a ∷ b ∷ c ∷ d ∷ e ∷ f ∷ []) n (p, (q, (r, (s, (t, (u, tt))))))
