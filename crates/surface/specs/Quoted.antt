-- The quotes of columns of one length, as the definitions of crate `chart` speak of them.
use Rattle.std.specs.Prelude.{List, length}
use Rattle.admission.specs.Lent.{columns_in}
use Rattle.admission.specs.declared.Quotes.{Quotes}
use Rattle.chart.specs.Quotes.{Quote, quotes}

-- A quote of each entry.
abbrev pub quotes_in : Quotes → List Quote
quotes_in q = quotes (columns_in q) (length q.strikes.now)
