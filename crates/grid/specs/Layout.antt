-- How a surface stands in lent memory: "The cell of row i and column j stands at 64 × i + j of the grid." A row is an expiry, a column a strike.
use Rattle.std.specs.Prelude.{ℕ, zero, suc, ◌+◌, ◌*◌, List, [], ◌∷◌, ◌++◌, take, drop}

abbrev pub cell_at : ℕ → ℕ → ℕ
cell_at i j = 64 * i + j

-- f at each of the n numbers from k on.
unfoldable pub values : {X : Type 0} → (ℕ → X) → ℕ → ℕ → List X
values f zero k = []
values f (suc n) k = f k ∷ values f n (suc k)

-- The list with its n entries from place a on made anew by f, and as it was elsewhere.
unfoldable pub partly : {X : Type 0} → (List X → List X) → ℕ → ℕ → List X → List X
partly f a n was = take a was ++ (f (take n (drop a was)) ++ drop n (drop a was))
