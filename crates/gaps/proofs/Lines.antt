-- One line more swept: what holds of some lines swept holds of one more. Assumes nothing.
use Prim.Native.Nat.{ℕ, suc, ◌<◌}
use mathlib.Core.Path.{◌≡◌, refl, sym, ap, ◌∙◌}
use mathlib.Core.Bool.{true}
use mathlib.Core.List.{List}
use mathlib.Core.Logic.{inl, inr}
use native.Mathlib.Nat.{eq-or-lt_of_le, le_of_suc-le-suc}
use native.Mathlib.Omega.{arith}
use lib.ListN.{length, get_or}
use lib.Ieee.{Float, nan, is_nan}
use Rattle.grid.specs.Layout.{values}
use Rattle.grid.proofs.Values.{length_values, get_d_values}
use Rattle.gaps.specs.Gaps.{swept}
use Rattle.gaps.specs.Filler.{Takes, SweptAlong}
use Rattle.gaps.proofs.Sweeps.{swept_takes, swept_gaps, takes_same}

-- line a, cell after cell
abbrev pub line : (ℕ → ℕ → ℕ) → ℕ → ℕ → List Float → List Float
line at n a g = values (λ b. get_or g (at a b) nan) n 0

-- line a of g swept, and nothing else written
pub record LineSwept (at : ℕ → ℕ → ℕ) (n a : ℕ) (g h : List Float) : Type 0 where
  pub sized : length h ≡ length g
  pub here : (b : ℕ) → b < n → get_or h (at a b) nan ≡ get_or (swept (line at n a g)) b nan
  pub elsewhere : (p : ℕ) → ((b : ℕ) → b < n → at a b ≡ p → ⊥) → get_or h p nan ≡ get_or g p nan

-- no two of the first `most` lines meet
abbrev pub Apart : (ℕ → ℕ → ℕ) → ℕ → ℕ → Type 0
Apart at most n = (a a' b b' : ℕ) → a < a' → a' < most → b < n → b' < n → at a b ≡ at a' b' → ⊥

module _ (at : ℕ → ℕ → ℕ) (most n : ℕ) (apart : Apart at most n) (was : List Float) where
  pub no_lines : SweptAlong at 0 n was was
  no_lines =
      record {
        sized = refl;
        elsewhere = λ p out. refl;
        takes = λ a j k h. absurd (omega arith);
        empty = λ a j h. absurd (omega arith);
      }

  module _ (a : ℕ) (few : a < most) (g h : List Float) (S : SweptAlong at a n was g) (L : LineSwept at n a g h) where
    -- line a is still as it was
    fresh : (l : ℕ) → l < n → get_or g (at a l) nan ≡ get_or was (at a l) nan
    fresh l m = S.elsewhere (at a l) (λ c b p q e. apart c a b l p few q m e)

    -- and each line before it stays as it is
    stays : (c b : ℕ) → c < a → b < n → get_or h (at c b) nan ≡ get_or g (at c b) nan
    stays c b p q = L.elsewhere (at c b) (λ l m e. apart c a b l p few q m (sym e))

    entry : (l : ℕ) → l < n → get_or (line at n a g) l nan ≡ get_or was (at a l) nan
    entry l m = get_d_values (λ b. get_or g (at a b) nan) n 0 l nan m ∙ ap (λ (b : ℕ). get_or g (at a b) nan) (omega arith) ∙ fresh l m

    long : length (line at n a g) ≡ n
    long = length_values (λ b. get_or g (at a b) nan) n 0

    here_takes : (j k : ℕ) → j < n → Takes (λ l. get_or was (at a l) nan) n j k → get_or h (at a j) nan ≡ get_or was (at a k) nan
    here_takes j k m t =
        let T = takes_same (λ l. get_or was (at a l) nan) (λ l. get_or (line at n a g) l nan) n j k (λ l q. sym (entry l q)) m t in
        L.here j m ∙ swept_takes (line at n a g) j (rw long m) k (rw long T) ∙ entry k t.inside

    here_empty : (j : ℕ) → j < n → ((l : ℕ) → l < n → is_nan (get_or was (at a l) nan) ≡ true) → is_nan (get_or h (at a j) nan) ≡ true
    here_empty j m e =
        rw (L.here j m)
        (swept_gaps (line at n a g) j (rw long m) (λ l q. let r : l < n = (rw long at q) in rw (entry l r) (e l r)))

    pub one_line_more : SweptAlong at (suc a) n was h
    one_line_more =
        record {
          sized = L.sized ∙ S.sized;
          elsewhere = λ p out.
              L.elsewhere p (λ b m e. out a b (omega arith) m e) ∙ S.elsewhere p (λ c b m q e. out c b (omega arith) q e);
          takes = λ c j k p m t.
              elim (eq-or-lt_of_le (le_of_suc-le-suc p)) [
                | inl e ↦ rw e (here_takes j k m (rw e at t))
                | inr q ↦ stays c j q m ∙ S.takes c j k q m t
              ];
          empty = λ c j p m t.
              elim (eq-or-lt_of_le (le_of_suc-le-suc p)) [
                | inl e ↦ rw e (here_empty j m (rw e at t))
                | inr q ↦ rw (stays c j q m) (S.empty c j q m t)
              ];
        }
