-- What a chain of checks says, and what a build answers and leaves by its number: to be unfolded. Assumes nothing.
unfoldable pub use Rattle.limits.specs.Checks.{first}
unfoldable pub use Rattle.limits.specs.Outcome.{answered, unless_refused}
