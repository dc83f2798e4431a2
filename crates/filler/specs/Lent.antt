-- What a sweep leaves: the same grid in the same bounds, with these cells.
use Rattle.std.specs.Prelude.{◌≡◌, List, Float}
use Rattle.filler.specs.declared.Lent.{Lent}

abbrev pub Leaves : Lent → Lent → List Float → Type 0
Leaves was is cells = (is.grid.now ≡ cells) × (is.grid.ghost_name ≡ was.grid.ghost_name) × (is.strikes ≡ was.strikes) × (is.expiries ≡ was.expiries)
