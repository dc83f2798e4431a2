-- What the checks of a build say together: what holds when none before the axes does, and what the axes then add. Assumes nothing.
use Prim.Native.Nat.{ℕ, ◌≤◌}
use mathlib.Core.Path.{◌≡◌, refl, sym, ap, ◌∙◌}
use mathlib.Core.Bool.{Bool, true, false, not}
use mathlib.Core.List.{List, [], ◌∷◌}
use native.Mathlib.Omega.{arith}
use lib.Dec.{ltb}
use lib.ListN.{length}
use borrow.Author.Tests.{ltb-false, le-ltb, not-false, ne_eqb}
use Rattle.floats.proofs.Tests.{or_left_false, or_right_false}
use Rattle.limits.specs.Checks.{first, none}
use Rattle.limits.specs.Outcome.{done, refused, answered, unless_refused}
use Rattle.limits.proofs.Checks.{Rows, passes, stays, none_of}
use Rattle.chart.specs.Quotes.{Quote, Columns, quotes, first_of, is_short, all_in_range, all_entries}
use Rattle.chart.specs.Cells.{axes}
use Rattle.chart.specs.Build.{Buffers, no_lengths, surface_of, is_wrong, is_small, refusal, BuildsTo}
use Rattle.chart.specs.Steps.{number_by, axes_refusal}
use Rattle.chart.proofs.Kept.{long, kept_in_range}

-- ---- the checks that come before the axes
abbrev rows : Columns → ℕ → Bool → Rows
rows c kept small = (is_short c, 1) ∷ (is_wrong c kept, 2) ∷ (small, 15) ∷ []

-- ---- 1 and 2 do not hold
pub record Sound (c : Columns) (kept : ℕ) : Type 0 where
  pub strikes : kept ≤ length c.strikes
  pub expiries : kept ≤ length c.expiries
  pub volatilities : kept ≤ length c.volatilities
  pub few : kept ≤ 1024
  pub ranged : all_in_range (quotes c kept) ≡ true

sound : (c : Columns) (kept : ℕ) → is_short c ≡ false → is_wrong c kept ≡ false → Sound c kept
unfolding is_wrong
sound c kept h w =
    let l = long c h in
    let many = ltb 1024 kept in
    let out = not (all_in_range (quotes c kept)) in
    let few : kept ≤ 1024 = ltb-false 1024 kept (or_left_false many out w) in
    record {
      strikes = omega (arith, l.strikes);
      expiries = omega (arith, l.expiries);
      volatilities = omega (arith, l.volatilities);
      few = few;
      ranged = not-false _ (or_right_false many out w);
    }

module _ (c : Columns) (kept : ℕ) (small : Bool) where
  pub none_yet : number_by c kept small none ≡ none → Sound c kept × ((rest : ℕ) → rest ≡ number_by c kept small rest)
  unfolding first
  none_yet h =
      let p = (passes (rows c kept small) none refl h).0 in
      (sound c kept p.0 p.1.0, λ rest. rw (p.0, p.1.0, p.1.1.0))

  pub told_early : (n rest : ℕ) → n ≡ number_by c kept small none → (n ≡ none → ⊥) → n ≡ number_by c kept small rest
  told_early n rest h z = stays (rows c kept small) n rest h z

-- the whole chain, 15 told by a test
pub told : (c : Columns) (kept : ℕ) (s : Buffers) (small : Bool) → small ≡ is_small s
    → refusal c kept s ≡ number_by c kept small (axes_refusal (length (axes (quotes c kept)).strikes) (length (axes (quotes c kept)).expiries))
unfolding refusal
told c kept s small e =
    ap (λ (b : Bool). number_by c kept b (axes_refusal (length (axes (quotes c kept)).strikes) (length (axes (quotes c kept)).expiries))) (sym e)

-- ---- 2, of the entries side by side
module _ (c : Columns) (kept : ℕ) (small : Bool) (b : Bool) (full : is_short c ≡ false) (few : kept ≤ 1024) (e : b ≡ all_entries (first_of c kept)) where
  entries_told : b ≡ all_in_range (quotes c kept)
  entries_told = let l = long c full in e ∙ kept_in_range c kept (omega (arith, l.strikes)) (omega (arith, l.expiries)) (omega (arith, l.volatilities))

  pub told_wrong : b ≡ false → 2 ≡ number_by c kept small none
  unfolding first is_wrong
  told_wrong f = rw (full, le-ltb 1024 kept few, ← entries_told, f)

  pub told_ranged : b ≡ true → first small 15 none ≡ number_by c kept small none
  unfolding first is_wrong
  told_ranged t = rw (full, le-ltb 1024 kept few, ← entries_told, t)

-- ---- no check holds
pub record Passed (c : Columns) (kept : ℕ) (s : Buffers) : Type 0 where
  pub sound : Sound c kept
  pub long_strikes : 64 ≤ length s.strikes
  pub long_expiries : 32 ≤ length s.expiries
  pub long_grid : 2048 ≤ length s.grid
  pub long_counts : 2048 ≤ length s.counts
  pub narrow : length (axes (quotes c kept)).strikes ≤ 64
  pub low : length (axes (quotes c kept)).expiries ≤ 32

pub passed : (c : Columns) (kept : ℕ) (s : Buffers) → refusal c kept s ≡ none → Passed c kept s
unfolding refusal is_small
passed c kept s h =
    let x = axes (quotes c kept) in
    let k = ltb (length s.strikes) 64 in
    let t = ltb (length s.expiries) 32 in
    let g = ltb (length s.grid) 2048 in
    let n = ltb (length s.counts) 2048 in
    let p = passes (rows c kept (is_small s)) (axes_refusal (length x.strikes) (length x.expiries)) refl h in
    let f = (passes ((ltb 64 (length x.strikes), 16) ∷ (ltb 32 (length x.expiries), 17) ∷ []) none refl p.1).0 in
    let l = none_of k (t ∷ g ∷ n ∷ []) p.0.1.1.0 in
    record {
      sound = sound c kept p.0.0 p.0.1.0;
      long_strikes = ltb-false (length s.strikes) 64 l.0;
      long_expiries = ltb-false (length s.expiries) 32 l.1.0;
      long_grid = ltb-false (length s.grid) 2048 l.1.1.0;
      long_counts = ltb-false (length s.counts) 2048 l.1.1.1.0;
      narrow = ltb-false 64 (length x.strikes) f.0;
      low = ltb-false 32 (length x.expiries) f.1.0;
    }

-- ---- the two ends of a build
module _ (number : ℕ) (qs : List Quote) (s : Buffers) where
  pub refused_by : (n : ℕ) → number ≡ n → (n ≡ none → ⊥) → BuildsTo number qs s (refused n no_lengths) s
  unfolding answered unless_refused
  refused_by n e z = let t = ne_eqb n none z in record { answers = rw (e, t); buffers = rw (e, t) }

  pub done_by : (s' : Buffers) (k t : ℕ) → number ≡ none → k ≡ length (axes qs).strikes → t ≡ length (axes qs).expiries → s' ≡ surface_of qs s
      → BuildsTo number qs s (done (record { strikes = k; expiries = t })) s'
  unfolding answered unless_refused
  done_by s' k t e hk ht h = record { answers = rw (e, hk, ht); buffers = rw e h }
