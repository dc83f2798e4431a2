-- The build of a book that agrees with the tally is the surface of the tally's quotes. Assumes nothing.
use mathlib.Core.Path.{◌≡◌, refl, sym, ap, ◌∙◌, subst}
use mathlib.Core.Logic.{inl, inr}
use Prim.Native.Nat.{ℕ, ◌-◌, ◌*◌, ◌≤◌, ◌<◌}
use native.Mathlib.Nat.{eq-or-lt_of_le}
use native.Mathlib.Omega.{arith}
use mathlib.Core.Bool.{Bool, true, false, ◌||◌}
use mathlib.Core.List.Memᴰ
use mathlib.Core.List.{List, [], ◌∷◌, Memᴰ}
use mathlib.Core.Option.{Option, some}
use lib.Dec.{ltb}
use lib.ListN.{length, drop}
use lib.Seq.{take-append_seam, drop-append_seam}
use borrow.Author.Tests.{le-ltb, ltb-true, ltb-false, eq-eqb, ne_eqb}
use lib.Ieee.{nan}
use Rattle.limits.specs.Checks.{first, none}
use Rattle.limits.specs.Outcome.{answered, unless_refused}
use Rattle.limits.proofs.Checks.{passes, none_of}
use Rattle.chart.specs.Quotes.{Quote, all_in_range}
use Rattle.chart.specs.Axis.{place}
use Rattle.chart.specs.Cells.{Axes, axes, Housed, count, mean, leftward, rightward, either, source, cell}
use Rattle.chart.specs.Build.{lengths, no_lengths, is_wrong, is_small, refusal, surface_of}
use Rattle.chart.proofs.Housing.{meaning}
use Rattle.chart.proofs.Layouts.{table_length, table_at, table_else}
use Rattle.chart.proofs.Neighbour.{Left, Right, left_is, right_is, source_own}
use Rattle.ledger.specs.declared.Opening.{Opening}
use Rattle.ledger.specs.Tally.{Tally}
use Rattle.ledger.specs.Book.{Columns, open_refusal, is_short}
use Rattle.ledger.specs.Build.{Buffers, quotes_of, build_refusal, build_outcome, buffers_after}
use Rattle.ledger.specs.Claim.{Ledger, Neighbour, left, right, surface_refusal, height, width, SurfaceClaim, BuildClaim}
use Rattle.ledger.proofs.Agree.{Agree, same_short, unbroken}

-- ---- where a cell's mean comes from
-- a row with a counted column b has a neighbour for each uncounted one
found_in : (c : ℕ → ℕ) (w j b : ℕ) (l r : Option ℕ) → c j ≡ 0 → j < w → b < w → 0 < c b → Left c j l → Right c j w r → Neighbour c w j (either l r)
found_in c w j b (some k) r z h g p a d = left a.0 a.1 a.2
found_in c w j b Option.none (some k) z h g p a d = elim (eq-or-lt_of_le d.0) [
  | inl e ↦ absurd (omega (arith, ap c e, d.2))
  | inr n ↦ right a n d.1 d.2 (λ m u v. d.3 m (omega arith) v)
]
found_in c w j b Option.none Option.none z h g p a d = absurd (go (ltb b j) refl)
  where
    go : (t : Bool) → ltb b j ≡ t → ⊥
    go true t = omega (arith, a b (ltb-true b j t))
    go false t = omega (arith, d b (ltb-false b j t) g)

neighbour : (c : ℕ → ℕ) (w j b : ℕ) → c j ≡ 0 → j < w → b < w → 0 < c b → Neighbour c w j (source c w j)
unfolding source
neighbour c w j b z h g p =
    rw (le-ltb 0 (c j) (omega arith)) (found_in c w j b (leftward c j) (rightward c j (w - j)) z h g p (left_is c j) (right_is c j (w - j) w (omega arith)))

-- ---- the cell of one quote
abbrev Inside : Axes → Quote → Type 0
Inside x q = (place x.expiries q.expiry < length x.expiries) × (place x.strikes q.strike < length x.strikes)

inside : (x : Axes) (q : Quote) (qs : List Quote) → Housed x qs → Memᴰ q qs → Inside x q
inside x q [] h m = absurd (Memᴰ.not-nil m)
inside x q (p ∷ qs) h m = elim (Memᴰ.cases_cons m) [
  | inl e ↦ subst (Inside x) (sym e) (h.0, h.1)
  | inr n ↦ inside x q qs h.2 n
]

-- ---- the surface of quotes in range, in buffers that are long enough
module _ (qs : List Quote) (s : Buffers) where
  surface_claim : all_in_range qs ≡ true → width qs s ≤ 64 → height qs s ≤ 32 → 2048 ≤ length s.grid → 2048 ≤ length s.counts
      → SurfaceClaim qs s (surface_of qs s)
  unfolding cell
  surface_claim ranged narrow low grid counts =
      let x = axes qs in
      let means = meaning qs ranged in
      let g : 64 * height qs s ≤ length s.grid = omega arith in
      let n : 64 * height qs s ≤ length s.counts = omega arith in
      record {
        strikes = take-append_seam x.strikes (drop (width qs s) s.strikes);
        expiries = take-append_seam x.expiries (drop (height qs s) s.expiries);
        housed = λ m. inside x _ qs means.housed m;
        counts = λ i j a b. table_at (λ i j. count x i j qs) (width qs s) narrow s.counts (height qs s) i j 0 n a b;
        once = means.once;
        means = λ i j a b c.
            table_at (cell x qs) (width qs s) narrow s.grid (height qs s) i j nan g a b
            ∙ ap (λ (k : ℕ). mean x i k qs) (source_own (λ k. count x i k qs) (width qs s) j c);
        neighbours = λ i j a b z.
            let y = means.row_counted i a in (
              source (λ k. count x i k qs) (width qs s) j,
              neighbour (λ k. count x i k qs) (width qs s) j y.0 z b y.1 y.2,
              table_at (cell x qs) (width qs s) narrow s.grid (height qs s) i j nan g a b,
            );
        rest_strikes = drop-append_seam x.strikes (drop (width qs s) s.strikes);
        rest_expiries = drop-append_seam x.expiries (drop (height qs s) s.expiries);
        rest_grid = λ p o. table_else (cell x qs) (width qs s) narrow s.grid (height qs s) p nan g (λ i j a b e. o i j a b (sym e));
        rest_counts = λ p o. table_else (λ i j. count x i j qs) (width qs s) narrow s.counts (height qs s) p 0 n (λ i j a b e. o i j a b (sym e));
        same_lengths = (
          table_length (cell x qs) (width qs s) narrow s.grid (height qs s) g,
          table_length (λ i j. count x i j qs) (width qs s) narrow s.counts (height qs s) n,
        );
      }

-- ---- the checks of a build
-- what passing 15, 16 and 17 says
pub record Fits (qs : List Quote) (s : Buffers) : Type 0 where
  pub narrow : width qs s ≤ 64
  pub low : height qs s ≤ 32
  pub grid : 2048 ≤ length s.grid
  pub counts : 2048 ≤ length s.counts

pub fits : (qs : List Quote) (s : Buffers) (short : Bool) → surface_refusal qs s short ≡ none → Fits qs s
unfolding surface_refusal
fits qs s short e =
    let a = ltb (length s.strikes) 64 in
    let b = ltb (length s.expiries) 32 in
    let c = ltb (length s.grid) 2048 in
    let d = ltb (length s.counts) 2048 in
    let p = (passes ((short, 1) ∷ (a || b || c || d, 15) ∷ (ltb 64 (width qs s), 16) ∷ (ltb 32 (height qs s), 17) ∷ []) none refl e).0 in
    let n = none_of a (b ∷ c ∷ d ∷ []) p.1.0 in
    record {
      narrow = ltb-false 64 (width qs s) p.1.1.0;
      low = ltb-false 32 (height qs s) p.1.1.1.0;
      grid = ltb-false (length s.grid) 2048 n.1.1.0;
      counts = ltb-false (length s.counts) 2048 n.1.1.1.0;
    }

-- 2 does not hold of the book, and 1 is told once
twice : (short buffers strikes expiries : Bool)
    → first short 1 (first false 2 (first short 1 (first false 2 (first buffers 15 (first strikes 16 (first expiries 17 none))))))
    ≡ first short 1 (first buffers 15 (first strikes 16 (first expiries 17 none)))
unfolding first
twice true b k t = refl
twice false b k t = refl

module _ (opening : Opening) (was : Columns) (ok : open_refusal opening ≡ none) (l : Ledger) (t : Tally) (a : Agree opening was l t)
    (same : quotes_of l.book l.columns ≡ t.quotes) (s : Buffers) where
  refusal_is : build_refusal l.book l.columns s ≡ surface_refusal t.quotes s (is_short was)
  unfolding build_refusal surface_refusal refusal is_wrong is_small
  refusal_is =
      simp (same_short opening was l t a, unbroken opening was l t ok a, le-ltb 1024 l.book.kept (omega (arith, a.kept, a.room)), same, a.ranged)
      (twice (is_short was) (is_small s) (ltb 64 (width t.quotes s)) (ltb 32 (height t.quotes s)))

  outcome_is : build_outcome l.book l.columns s ≡ answered (surface_refusal t.quotes s (is_short was)) no_lengths (lengths (axes t.quotes))
  outcome_is = λ i. answered (refusal_is i) no_lengths (lengths (axes (same i)))

  buffers_are : buffers_after l.book l.columns s ≡ unless_refused (surface_refusal t.quotes s (is_short was)) (surface_of t.quotes s) s
  buffers_are = rw (refusal_is, same)

  pub build_claim : BuildClaim t.quotes s (is_short was) (build_outcome l.book l.columns s) (buffers_after l.book l.columns s)
  unfolding unless_refused
  build_claim =
      let r = surface_refusal t.quotes s (is_short was) in
      record {
        number = outcome_is;
        refused = λ n. buffers_are ∙ rw (ne_eqb r none n);
        surface = λ e.
            let f = fits t.quotes s (is_short was) e in
            let accepted : buffers_after l.book l.columns s ≡ surface_of t.quotes s = buffers_are ∙ rw (eq-eqb r none e) in
            subst (λ (s' : Buffers). SurfaceClaim t.quotes s s') (sym accepted)
            (surface_claim t.quotes s a.ranged f.narrow f.low f.grid f.counts);
      }
