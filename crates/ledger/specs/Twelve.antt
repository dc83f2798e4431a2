-- Document 01, 'Twelve desk examples', as one table: what was computed beside what it is.
use Rattle.std.specs.Prelude.{ℕ, ◌+◌, ◌*◌, ◌^◌, ◌≡◌, List, [], ◌∷◌, length, Float}
use Rattle.std.specs.Float.{nan}
use Rattle.std.specs.Float.Ieee.{neg}
use Rattle.floats.specs.Operators.{decimal}
use Rattle.limits.specs.Outcome.{done, refused}
use Rattle.root.specs.Root.{sqrt}
use Rattle.elementary.specs.Exp.{exp}
use Rattle.elementary.specs.Ln.{ln}
use Rattle.gauss.specs.Normal.{cdf}
use Rattle.brent.specs.Outcome.{ended, zeros}
use Rattle.brent.specs.Feed.{over}
use Rattle.brent.specs.Run.{run}
use Rattle.gaps.specs.Gaps.{swept}
use Rattle.chart.specs.Quotes.{Quote}
use Rattle.chart.specs.Axis.{axis}
use Rattle.chart.specs.Cells.{axes, count, cell}

-- A row: a value of some type, got and wanted.
pub record Row : Type 1 where
  pub of : Type 0
  pub got : of
  pub want : of

abbrev row : {A : Type 0} → A → A → Row
row {A} x y = record { of = A; got = x; want = y }

abbrev pub Holds : List Row → Type 0
Holds [] = Unit {0}
Holds (r ∷ rs) = (◌≡◌ {A = r.of} r.got r.want) × Holds rs

-- 100, 100 + 2^-40, 100 + 2^-39; and quotes at one expiry.
abbrev a : Float
a = decimal 100 1

abbrev b : Float
b = decimal (100 * 2 ^ 40 + 1) (2 ^ 40)

abbrev c : Float
c = decimal (100 * 2 ^ 39 + 1) (2 ^ 39)

abbrev quoted : Float → Float → Quote
quoted strike volatility = record { strike = strike; expiry = decimal 1 2; volatility = volatility }

abbrev two_in_one : List Quote
two_in_one = quoted a (decimal 1 4) ∷ quoted a (decimal 1 2) ∷ []

abbrev pub all_three : List Quote
all_three = quoted a (decimal 1 4) ∷ quoted b (decimal 1 4) ∷ quoted c (decimal 1 4) ∷ []

-- Two columns, with the counts 2 and 1.
abbrev pub column_counts : List Quote → List ℕ
column_counts qs = length (axes qs).strikes ∷ count (axes qs) 0 0 qs ∷ count (axes qs) 0 1 qs ∷ []

abbrev pub table : List Row
table =
    row (sqrt (decimal 1 4)) (decimal 1 2)
    ∷ row (exp (decimal 0 1)) (decimal 1 1)
    ∷ row (exp (neg (decimal 7455 10))) (decimal 0 1)
    ∷ row (ln (decimal 1 1)) (decimal 0 1)
    ∷ row (cdf (decimal 0 1)) (decimal 1 2)
    ∷ row (swept (nan ∷ decimal 1 4 ∷ nan ∷ decimal 1 2 ∷ nan ∷ [])) (decimal 1 4 ∷ decimal 1 4 ∷ decimal 1 4 ∷ decimal 1 2 ∷ decimal 1 2 ∷ [])
    ∷ row (cell (axes two_in_one) two_in_one 0 0) (decimal 3 8)
    ∷ row (axis (a ∷ b ∷ [])) (a ∷ [])
    ∷ row (axis (a ∷ c ∷ [])) (a ∷ c ∷ [])
    ∷ row (column_counts all_three) (2 ∷ 2 ∷ 1 ∷ [])
    ∷ row (run (decimal 1 1) (decimal 1 2 ∷ decimal 1 4 ∷ [])).reply (ended (refused 12 (zeros 2)) over)
    ∷ row (run (decimal 1 1) (decimal 1 2 ∷ decimal 1 1 ∷ [])).reply
    (ended (done (record { volatility = decimal 10 1; error = decimal 0 1; c = decimal 1 1000000; c_error = neg (decimal 1 2); evaluations = 2 })) over)
    ∷ []
