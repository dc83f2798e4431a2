-- Document 01: a build of the book "checks 1, 2, 15, 16, 17; the book is unchanged". The record's part of 2 is tested before the columns' part.
use Rattle.std.specs.Prelude.{ℕ, List}
use Rattle.limits.specs.Checks.{first}
use Rattle.limits.specs.Outcome.{Outcome, answered, unless_refused}
use Rattle.chart.specs.Quotes.{Quote, quotes}
use Rattle.chart.specs.Cells.{axes}
pub use Rattle.chart.specs.Build.{Buffers, buffers_of}
use Rattle.chart.specs.Build.{lengths, no_lengths, refusal, surface_of, BuildsTo}
use Rattle.chart.specs.declared.Lengths.{Lengths}
use Rattle.ledger.specs.Book.{Columns, is_short, is_broken}
use Rattle.ledger.specs.declared.Book.{Book}

-- The quotes that the book holds.
abbrev pub quotes_of : Book → Columns → List Quote
quotes_of b c = quotes c b.kept

-- 1, the record's part of 2, then the surface's.
unfoldable pub build_refusal : Book → Columns → Buffers → ℕ
build_refusal b c s =
    first (is_short c) 1
    (first (is_broken b) 2
    (refusal c b.kept s))

abbrev pub build_outcome : Book → Columns → Buffers → Outcome Lengths
build_outcome b c s = answered (build_refusal b c s) no_lengths (lengths (axes (quotes_of b c)))

abbrev pub buffers_after : Book → Columns → Buffers → Buffers
buffers_after b c s = unless_refused (build_refusal b c s) (surface_of (quotes_of b c) s) s

-- What a call of `build` leaves.
abbrev pub BuildsBook : Book → Columns → Buffers → Outcome Lengths → Buffers → Type 0
BuildsBook b c s answer s' = BuildsTo (build_refusal b c s) (quotes_of b c) s answer s'
