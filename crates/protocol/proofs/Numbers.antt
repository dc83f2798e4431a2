-- The numbers that frames are answered with. Assumes nothing.
use Rattle.std.specs.Prelude.{Option, Some, None}
use Prim.Native.Nat.{ℕ}
use mathlib.Core.Path.{◌≡◌, refl}
use mathlib.Core.Bool.{Bool, true, not, ◌&&◌}
use lib.Dec.{leb, eqb}
use borrow.Author.Tests.{leb-true, eq-eqb, not-true}
use lib.Ieee.{Float}
use Rattle.floats.specs.Operators.{decimal}
use Rattle.floats.proofs.Tests.{clash, and_left, and_right}
use Rattle.limits.specs.Checks.{first, none}
use Rattle.limits.specs.Outcome.{Outcome, done, refused, values_of, answered}
use Rattle.limits.proofs.Checks.{first_keeps, IfRefused, chosen}
use Rattle.brent.specs.declared.Solution.{Solution}
use Rattle.brent.specs.Outcome.{ended}
use Rattle.brent.specs.Feed.{over}
use Rattle.brent.specs.Run.{run_with}
use Rattle.brent.specs.Claim.{Given, five, eleven, twelve, thirteen}
use Rattle.brent.proofs.Theorem.{claim}
use Rattle.grid.specs.Readings.{read_refusal, reading}
use Rattle.chart.specs.Build.{refusal}
use Rattle.chart.specs.declared.Lengths.{Lengths}
use Rattle.blackscholes.specs.declared.OptionType.{OptionType}
use Rattle.ledger.specs.Model.{Model, bsm, prices_of}
use Rattle.ledger.specs.declared.Opening.{Opening}
use Rattle.ledger.specs.Book.{Columns, is_short, open_refusal, opened, own_refusal, offer_refusal, end_of, answer_to, answer, offer_outcome}
use Rattle.ledger.specs.declared.Offer.{Offer}
use Rattle.ledger.specs.declared.Terms.{Terms}
use Rattle.ledger.specs.declared.Terms.TheVariants.{Volatility, Price}
use Rattle.ledger.specs.Build.{Buffers, build_refusal, build_outcome, buffers_after}
use Rattle.ledger.specs.Claim.{Ledger, hear, reply}
use Rattle.ledger.specs.declared.Book.{Book}
use Rattle.hexlines.specs.declared.Frame.{Frame}
use Rattle.protocol.specs.declared.Asked.{Asked}
use Rattle.protocol.specs.Claims.{Tabled}
use Rattle.protocol.specs.Hear.{ledger, said, opens, offers, blank, read_of, reads, asked_by, answers, hears}

is_tabled : (n : ℕ) → (leb n 21 && not (eqb n 14)) ≡ true → Tabled n
is_tabled n h =
    let few = leb n 21 in
    let other = not (eqb n 14) in
    (leb-true n 21 (and_left few other h), λ e. clash (eq-eqb n 14 e) (not-true (eqb n 14) (and_right few other h)))

-- Done, or refused by a number of the table.
abbrev InTable : {X : Type 0} → Outcome X → Type 0
InTable o = IfRefused Tabled o

next : (holds : Bool) (number rest : ℕ) → (leb number 21 && not (eqb number 14)) ≡ true → Tabled rest → Tabled (first holds number rest)
next holds number rest h k = first_keeps Tabled holds number rest (is_tabled number h) k

no_number : Tabled none
no_number = is_tabled none refl

open_tabled : (o : Opening) → InTable (opened o)
unfolding opened open_refusal answered
open_tabled o = chosen Tabled _ _ (done _) (next _ 6 _ refl (next _ 9 none refl no_number)) tt

given_tabled : {n k : ℕ} → Given n k → Tabled n
given_tabled five = is_tabled 5 refl
given_tabled (eleven p q) = is_tabled 11 refl
given_tabled twelve = is_tabled 12 refl
given_tabled thirteen = is_tabled 13 refl

run_tabled : (market : Float) (price : Float → Float) → InTable (end_of (run_with market price).reply)
unfolding end_of
run_tabled market price = let m = claim.modelled market price in go m.done_with.0 m.done_with.1
  where
    go : (o : Outcome Solution) → (run_with market price).reply ≡ ended o over → InTable (end_of (run_with market price).reply)
    go (done x) e = rw e tt
    go (refused n x) e = rw e (given_tabled ((claim.modelled market price).ran.refusal e).0)

answer_tabled : (prices : OptionType → Float → Float) (terms : Terms) → InTable (answer_to prices terms)
unfolding answer_to
answer_tabled prices (Volatility v) = tt
answer_tabled prices (Price kind market) = run_tabled market (prices kind)

own_tabled : (o : Offer) → Tabled (own_refusal o)
unfolding own_refusal
own_tabled o = next _ 5 _ refl (next _ 7 _ refl (next _ 8 _ refl (next _ 10 none refl no_number)))

offer_tabled : (model : Model) (short : Bool) (b : Book) (o : Offer) → InTable (offer_outcome model short b o)
unfolding offer_outcome offer_refusal
offer_tabled model short b o =
    chosen Tabled _ _ (answer model _ o)
    (next _ 1 _ refl (next _ 2 _ refl (next _ 3 _ refl (next _ 4 _ refl (own_tabled o)))))
    (answer_tabled (prices_of model _ o) o.terms)

build_tabled : (b : Book) (c : Columns) (s : Buffers) → InTable (build_outcome b c s)
unfolding build_refusal refusal answered
build_tabled b c s =
    chosen Tabled _ _ (done _)
    (next _ 1 _ refl
    (next _ 2 _ refl
    (next _ 1 _ refl (next _ 2 _ refl (next _ 15 _ refl (next _ 16 _ refl (next _ 17 none refl no_number)))))))
    tt

read_tabled : (ks ts grid : _) (m n : ℕ) (strike expiry : Float) → InTable (reading ks ts grid m n strike expiry)
unfolding reading read_refusal answered
read_tabled ks ts grid m n strike expiry =
    chosen Tabled _ _ (done _)
    (next _ 2 _ refl (next _ 15 _ refl (next _ 18 _ refl (next _ 19 _ refl (next _ 20 none refl no_number)))))
    tt

read_of_tabled : (s : Buffers) (strike expiry : Float) (o : Outcome Lengths) → InTable o → InTable (read_of s strike expiry o)
unfolding read_of
read_of_tabled s strike expiry (done n) h = read_tabled s.strikes s.expiries s.grid n.strikes n.expiries strike expiry
read_of_tabled s strike expiry (refused number n) h = h

said_tabled : {X : Type 0} (l : Ledger) (value : X → Float) (o : Outcome X) → InTable o → Tabled (said l value o).number
unfolding said
said_tabled l value (done x) h = no_number
said_tabled l value (refused number x) h = h

opens_tabled : (l : Ledger) (o : Opening) → Tabled (opens l o).number
unfolding opens
opens_tabled l o = said_tabled (ledger (values_of (opened o)) l.columns) (λ (b : Book). decimal 0 1) (opened o) (open_tabled o)

offers_tabled : (l : Ledger) (o : Offer) → Tabled (offers l o).number
unfolding offers
offers_tabled l o =
    said_tabled (hear bsm l o) (λ (x : Solution). x.volatility) (reply bsm l o)
    (offer_tabled bsm (is_short l.columns) l.book o)

reads_tabled : (l : Ledger) (strike expiry : Float) → Tabled (reads l strike expiry).number
unfolding reads
reads_tabled l strike expiry =
    let s = buffers_after l.book l.columns blank in
    let o = build_outcome l.book l.columns blank in
    said_tabled l (λ (x : Float). x) (read_of s strike expiry o) (read_of_tabled s strike expiry o (build_tabled l.book l.columns blank))

asked_tabled : (l : Ledger) (a : Asked) → Tabled (answers l a).number
unfolding answers
asked_tabled l (Asked.Open opening) = opens_tabled l opening
asked_tabled l (Asked.Quote offer) = offers_tabled l offer
asked_tabled l (Asked.Read strike expiry) = reads_tabled l strike expiry

pub tabled : (l : Ledger) (f : Option Frame) → Tabled (hears l f).number
unfolding hears
tabled l (Some f) = asked_tabled l (asked_by f)
tabled l None = is_tabled (hears l None).number refl
