-- Document 01: the solver "also stands alone, fed one price at a time by any model; checks are 5 at the start, then 21, 11, 12, 13, 14."
-- 14 left with S-10: no answer is out of range. Ends 0.000001 and 10, 50 rounds, error = price - market price.
use Rattle.std.specs.Prelude.{ℕ, ◌+◌, Bool, not, ◌&&◌, ◌||◌, leb, ltb, eqb, Float, if◌then◌else◌}
use Rattle.std.specs.Float.Ieee.{eq}
use Rattle.floats.specs.Operators.{decimal, ◌⊖◌, ◌⊗◌, ◌≺◌}
use Rattle.floats.specs.Values.{finite}
use Rattle.limits.specs.Ranges.{is_price, is_volatility, lowest_volatility, highest_volatility}
use Rattle.limits.specs.Checks.{first, none}
use Rattle.limits.specs.Outcome.{done, refused}
use Rattle.brent.specs.declared.Points.{Points}
use Rattle.brent.specs.declared.Solver.{Solver}
use Rattle.brent.specs.Brent.{reset, swap, converged, advance}
use Rattle.brent.specs.declared.Solution.{Solution}
use Rattle.brent.specs.Outcome.{Reply, asking, ended, zeros}

-- "2 for the ends, then one a round": 13 comes with the price of the last round.
abbrev pub most_rounds : ℕ
most_rounds = 50

abbrev pub most_evaluations : ℕ
most_evaluations = 52

-- "An ended state's numbers are all 0."
unfoldable pub over : Solver
over =
    let o = decimal 0 1 in
    record { market = o; points = record { a = o; b = o; c = o; fa = o; fb = o; fc = o; d = o; e = o }; rounds = 0; evaluations = 0 }

-- A fresh state: no price obtained, the ends at a and b, and the opposing point at the lower one.
unfoldable pub fresh : Float → Solver
fresh market =
    let o = decimal 0 1 in
    record {
      market = market;
      points =
          record { a = lowest_volatility; b = highest_volatility; c = lowest_volatility; fa = o; fb = o; fc = o; d = o; e = o };
      rounds = 0;
      evaluations = 0;
    }

-- The three answers: the solver ends with a number, asks for the price at b, or ends with b as its answer.
unfoldable pub refuse : ℕ → ℕ → Reply
refuse number evaluations = ended (refused number (zeros evaluations)) over

unfoldable pub ask : Float → Points → ℕ → ℕ → Reply
ask market p rounds evaluations = asking p.b (record { market = market; points = p; rounds = rounds; evaluations = evaluations })

-- "Its answer carries volatility, error, the opposing point c with its error, and evaluations."
abbrev pub solution : Points → ℕ → Solution
solution p evaluations = record { volatility = p.b; error = p.fb; c = p.c; c_error = p.fc; evaluations = evaluations }

unfoldable pub find : Points → ℕ → Reply
find p evaluations = ended (done (solution p evaluations)) over

-- 5 at the start. The price at the lower end is asked for first.
unfoldable pub start : Float → Reply
start market = if is_price market then (asking lowest_volatility (fresh market)) else (refuse 5 0)

-- An error takes its place: evaluations 0 and 1 are the ends a and b, after which the Rust sets c = a; fc = fa; d = b - a; e = d. Later ones are at b.
unfoldable pub placed : Points → ℕ → Float → Points
placed p evaluations error =
    if eqb evaluations 0
    then (record { a = p.a; b = p.b; c = p.c; fa = error; fb = p.fb; fc = p.fc; d = p.d; e = p.e })
    else (if eqb evaluations 1
    then (record { a = p.a; b = p.b; c = p.a; fa = p.fa; fb = error; fc = p.fa; d = p.b ⊖ p.a; e = p.b ⊖ p.a })
    else (record { a = p.a; b = p.b; c = p.c; fa = p.fa; fb = error; fc = p.fc; d = p.d; e = p.e }))

-- S-10: the points a, b and c lie in 0.000001 to 10. (d and e are steps.)
unfoldable pub in_range : Points → Bool
in_range p = is_volatility p.a && is_volatility p.b && is_volatility p.c

-- 21. It ended (a market of 0.0 passes no start), or its state "holds more than 50 rounds or 52 evaluations" or, since S-10, "a point not in that range".
unfoldable pub is_unusable : Solver → Bool
is_unusable s = eq s.market (decimal 0 1) || ltb most_rounds s.rounds || ltb most_evaluations s.evaluations || not (in_range s.points)

-- 12. The two end errors have a product above 0: known once the second end's price is.
unfoldable pub is_unbracketed : Solver → Float → Bool
is_unbracketed s error = eqb s.evaluations 1 && decimal 0 1 ≺ s.points.fa ⊗ error

-- The checks of a feed in their order.
unfoldable pub feed_number : Solver → Float → ℕ
feed_number s error =
    first (is_unusable s) 21
    (first (not (finite error)) 11
    (first (is_unbracketed s error) 12
    (first (leb most_rounds s.rounds) 13
    none)))

-- The answer to the volatility asked for last, whose price is fed. It counts as an evaluation, "the one refused by 11 included". "21 hands a state back
-- unaltered"; "success and 11 to 14 end it", 14 without occasion. The first price is answered by asking for the second; each later one starts a round.
unfoldable pub feed : Solver → Float → Reply
feed s price =
    let error = price ⊖ s.market in
    let number = feed_number s error in
    let n = s.evaluations + 1 in
    let q = placed s.points s.evaluations error in
    let p = swap (reset q) in
    if eqb number 21 then (ended (refused 21 (zeros 0)) s)
    else (if not (eqb number none) then (refuse number n)
    else (if eqb s.evaluations 0 then (ask s.market q s.rounds n)
    else (if converged p then (find p n)
    else (ask s.market (advance p) (s.rounds + 1) n))))
