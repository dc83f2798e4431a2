-- The cells of a build as the definitions of crate `chart` speak of them: the sums of all, and the counts of all.
use Rattle.std.specs.Prelude.{ℕ, List, map, Float}
use Rattle.surface.specs.declared.cells.Cell.{Cell}

abbrev pub sums : List Cell → List Float
sums cells = map (λ (c : Cell). c.sum) cells

abbrev pub numbers : List Cell → List ℕ
numbers cells = map (λ (c : Cell). c.number) cells
