-- The first entries of the columns as a list of quotes. Assumes nothing.
use Prim.Native.Nat.{ℕ, zero, suc, ◌+◌, ◌≤◌, ◌<◌}
use mathlib.Core.Path.{◌≡◌, refl, sym, ◌∙◌, ap}
use mathlib.Core.Bool.{false}
use mathlib.Core.List.{List, [], ◌∷◌, map}
use native.Mathlib.Nat.{le_of_suc-le-suc}
use native.Mathlib.Omega.{arith}
use lib.Dec.{ltb}
use lib.ListN.{length, take, drop, get_or}
use lib.Seq.{get_or-take, drop-cons}
use borrow.Author.Tests.{ltb-false}
use lib.Ieee.{nan}
use Rattle.limits.proofs.Checks.{none_of}
use Rattle.grid.specs.Layout.{values}
use Rattle.grid.proofs.Values.{length_values, map_values, values_at, values_end, values_list, values_front, values_same}
use Rattle.chart.specs.Quotes.{Quote, Columns, columns_of, first_of, quote_at, quotes, is_short, all_in_range, all_entries}

-- where 1 does not hold, each column has 1,024 entries
pub record Long (c : Columns) : Type 0 where
  pub strikes : 1024 ≤ length c.strikes
  pub expiries : 1024 ≤ length c.expiries
  pub volatilities : 1024 ≤ length c.volatilities

pub long : (c : Columns) → is_short c ≡ false → Long c
unfolding is_short
long c h =
    let n = none_of (ltb (length c.strikes) 1024) (ltb (length c.expiries) 1024 ∷ ltb (length c.volatilities) 1024 ∷ []) h in
    record {
      strikes = ltb-false (length c.strikes) 1024 n.0;
      expiries = ltb-false (length c.expiries) 1024 n.1.0;
      volatilities = ltb-false (length c.volatilities) 1024 n.1.1.0;
    }

-- the first quote kept is what stands first in each column
pub first_kept : (c : Columns) → quotes c 1 ≡ quote_at c 0 ∷ []
unfolding values
first_kept c = refl

module _ (c : Columns) (n : ℕ) where
  pub length_quotes : length (quotes c n) ≡ n
  length_quotes = length_values (quote_at c) n 0

  -- a column that f reads, for any of them
  pub kept_of : {X : Type 0} (f : Quote → X) (l : List X) (d : X) → ((i : ℕ) → f (quote_at c i) ≡ get_or l i d) → n ≤ length l
      → map f (quotes c n) ≡ take n l
  kept_of f l d e h =
      map_values f (quote_at c) n 0
      ∙ values_front l d (λ i. f (quote_at c i)) n 0 h (λ i. ap (λ (k : ℕ). f (quote_at c k)) (omega arith) ∙ e i)

  pub strikes_of : n ≤ length c.strikes → map (λ (q : Quote). q.strike) (quotes c n) ≡ take n c.strikes
  strikes_of h = kept_of (λ q. q.strike) c.strikes nan (λ i. refl) h

  pub expiries_of : n ≤ length c.expiries → map (λ (q : Quote). q.expiry) (quotes c n) ≡ take n c.expiries
  expiries_of h = kept_of (λ q. q.expiry) c.expiries nan (λ i. refl) h

  -- quote by quote
  pub quotes_at : (i : ℕ) → i < n → drop i (quotes c n) ≡ quote_at c i ∷ drop (i + 1) (quotes c n)
  quotes_at i h = values_at (quote_at c) n i h

  pub quotes_end : (i : ℕ) → n ≤ i → drop i (quotes c n) ≡ []
  quotes_end i h = values_end (quote_at c) n i h

-- the columns' first entries have the same quotes
pub quotes_first : (c : Columns) (n : ℕ) → quotes (first_of c n) n ≡ quotes c n
quotes_first c n =
    values_same (quote_at (first_of c n)) (quote_at c) n 0 (λ i h.
    let l : i < n = omega arith in
    λ j.
    record {
      strike = get_or-take n c.strikes i nan l j;
      expiry = get_or-take n c.expiries i nan l j;
      volatility = get_or-take n c.volatilities i nan l j;
    })

-- the columns' first entries side by side are their quotes
go_in_range : (c : Columns) (n k : ℕ) → k + n ≤ length c.strikes → k + n ≤ length c.expiries → k + n ≤ length c.volatilities
    → all_entries (first_of (columns_of (drop k c.strikes) (drop k c.expiries) (drop k c.volatilities)) n) ≡ all_in_range (values (quote_at c) n k)
unfolding all_in_range all_entries values
go_in_range c zero k a b d = refl
go_in_range c (suc n) k a b d =
    let rest = go_in_range c n (suc k) (omega arith) (omega arith) (omega arith) in
    rw (drop-cons c.strikes k nan (omega arith), drop-cons c.expiries k nan (omega arith), drop-cons c.volatilities k nan (omega arith), rest)

pub kept_in_range : (c : Columns) (n : ℕ) → n ≤ length c.strikes → n ≤ length c.expiries → n ≤ length c.volatilities
    → all_entries (first_of c n) ≡ all_in_range (quotes c n)
kept_in_range c n a b d = go_in_range c n 0 (omega arith) (omega arith) (omega arith)

-- ---- columns that hold the quotes of a list hold no others
get_d_map : {X : Type 0} (f : Quote → X) (qs : List Quote) (i : ℕ) (q : Quote) (d : X) → i < length qs → get_or (map f qs) i d ≡ f (get_or qs i q)
get_d_map f [] i q d h = absurd (omega arith)
get_d_map f (p ∷ qs) zero q d h = refl
get_d_map f (p ∷ qs) (suc i) q d h = get_d_map f qs i q d (le_of_suc-le-suc h)

entry_of : {X : Type 0} (f : Quote → X) (l : List X) (d : X) (qs : List Quote) (i : ℕ) (q : Quote) → take (length qs) l ≡ map f qs → i < length qs
    → get_or l i d ≡ f (get_or qs i q)
entry_of f l d qs i q e h = sym (get_or-take (length qs) l i d h) ∙ ap (λ (m : List _). get_or m i d) e ∙ get_d_map f qs i q d h

pub read_back : (c : Columns) (qs : List Quote) → take (length qs) c.strikes ≡ map (λ (q : Quote). q.strike) qs
    → take (length qs) c.expiries ≡ map (λ (q : Quote). q.expiry) qs
    → take (length qs) c.volatilities ≡ map (λ (q : Quote). q.volatility) qs → quotes c (length qs) ≡ qs
read_back c qs ks ts vs = values_list qs (quote_at c) 0 (quote_at c 0) (λ i h. ap (quote_at c) (omega arith) ∙ same i h)
  where
    same : (i : ℕ) → i < length qs → quote_at c i ≡ get_or qs i (quote_at c 0)
    same i h =
        λ j.
        record {
          strike = entry_of (λ q. q.strike) c.strikes nan qs i (quote_at c 0) ks h j;
          expiry = entry_of (λ q. q.expiry) c.expiries nan qs i (quote_at c 0) ts h j;
          volatility = entry_of (λ q. q.volatility) c.volatilities nan qs i (quote_at c 0) vs h j;
        }
