-- The sums and the counts of cells, read, filed and cut out as those of the cells. Assumes nothing.
use Rattle.std.specs.Prelude.{if◌then◌else◌}
use Rattle.std.specs.List.{position, position_or_len}
use Rattle.std.proofs.lemmas.List.{map-set, take-map, drop-map}
use Prim.Native.Nat.{ℕ, ◌+◌}
use mathlib.Core.Path.{◌≡◌, refl, sym, ap, ◌∙◌}
use mathlib.Core.Bool.{not, cond}
use mathlib.Core.List.{List, [], ◌∷◌}
use lib.Dec.{eqb, ltb}
use lib.ListN.{take, drop, get_or, get_or-map, set, length-map}
use lib.Ieee.{Float, nan}
use Rattle.floats.specs.Operators.{decimal, ◌⊕◌, ◌⊘◌}
use Rattle.surface.specs.Filed.{sums, numbers}
use Rattle.surface.specs.declared.cells.Cell.{Cell}

abbrev pub no_cell : Cell
no_cell = record { sum = nan; number = 0 }

module _ (cs : List Cell) where
  pub sum_at : (k : ℕ) → get_or (sums cs) k nan ≡ (get_or cs k no_cell).sum
  sum_at k = get_or-map (λ c. c.sum) cs k no_cell

  pub number_at : (k : ℕ) → get_or (numbers cs) k 0 ≡ (get_or cs k no_cell).number
  number_at k = get_or-map (λ c. c.number) cs k no_cell

  -- a cell's mean, and what it holds after `last`
  pub mean_of : (k : ℕ) → (get_or cs k no_cell).sum ⊘ decimal (get_or cs k no_cell).number 1
      ≡ get_or (sums cs) k nan ⊘ decimal (get_or (numbers cs) k 0) 1
  mean_of k = sym (λ i. sum_at k i ⊘ decimal (number_at k i) 1)

  pub mean_or_of : (k : ℕ) (last : Float)
      → (if eqb (get_or cs k no_cell).number 0 then last else ((get_or cs k no_cell).sum ⊘ decimal (get_or cs k no_cell).number 1))
      ≡ (if eqb (get_or (numbers cs) k 0) 0 then last else (get_or (sums cs) k nan ⊘ decimal (get_or (numbers cs) k 0) 1))
  mean_or_of k last = sym (λ i. if eqb (number_at k i) 0 then last else (sum_at k i ⊘ decimal (number_at k i) 1))

  -- one volatility more in a cell
  pub sum_filed : (at : ℕ) (v : Float) (n : ℕ) → set (sums cs) at (get_or (sums cs) at nan ⊕ v)
      ≡ sums (set cs at (record { sum = (get_or cs at no_cell).sum ⊕ v; number = n }))
  sum_filed at v n = ap (λ (s : Float). set (sums cs) at (s ⊕ v)) (sum_at at) ∙ sym (map-set (λ c. c.sum) cs at _)

  pub number_filed : (at : ℕ) (s : Float) → set (numbers cs) at (get_or (numbers cs) at 0 + 1)
      ≡ numbers (set cs at (record { sum = s; number = (get_or cs at no_cell).number + 1 }))
  number_filed at s = ap (λ (n : ℕ). set (numbers cs) at (n + 1)) (number_at at) ∙ sym (map-set (λ c. c.number) cs at _)

  pub sums_part : (a n : ℕ) → sums (take n (drop a cs)) ≡ take n (drop a (sums cs))
  sums_part a n = sym (ap (λ (l : List Float). take n l) (drop-map (λ c. c.sum) a cs) ∙ take-map (λ c. c.sum) n (drop a cs))

  pub numbers_part : (a n : ℕ) → numbers (take n (drop a cs)) ≡ take n (drop a (numbers cs))
  numbers_part a n = sym (ap (λ (l : List ℕ). take n l) (drop-map (λ c. c.number) a cs) ∙ take-map (λ c. c.number) n (drop a cs))

-- the first counted cell is where the first count above 0 stands
counted_before : (cs : List Cell) → position_or_len (λ c. ltb 0 c.number) cs ≡ position_or_len (λ n. ltb 0 n) (numbers cs)
counted_before [] = refl
counted_before (c ∷ cs) = ap (λ (k : ℕ). cond (not (ltb 0 c.number)) (1 + k) 0) (counted_before cs)

pub first_counted : (cs : List Cell) → position (λ c. ltb 0 c.number) cs ≡ position (λ n. ltb 0 n) (numbers cs)
first_counted cs = rw (counted_before cs, length-map)
