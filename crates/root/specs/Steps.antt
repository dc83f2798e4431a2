-- What the private steps of the code promise each other. No meaning of document 01's rests on these.
use Rattle.std.specs.Prelude.{ℕ, ◌+◌, ◌*◌}
use Rattle.root.specs.declared.Rooted.{Rooted}

-- The number under a root: the square of its whole part, and what is left.
abbrev pub under : Rooted → ℕ
under r = r.q * r.q + r.rem
