-- Each row, by computation. Assumes nothing.
use mathlib.Core.Path.{refl}
use borrow.Author.Tests.{ne_eqb}
use Rattle.brent.specs.Outcome.{zeros}
use Rattle.ledger.specs.Rows.{Rows, offer_of, option_of, numbers_of, evidence_of, lengths_of, built_in}

pub rows : Rows
unfolding offer_of option_of numbers_of evidence_of lengths_of built_in zeros
rows =
    record {
      offered = λ put k t v. refl;
      call = λ k t market. refl;
      put = λ k t market. refl;
      call_price = λ s k t r v. refl;
      put_price = λ s k t r v. refl;
      numbers_found = λ v e c f n. refl;
      figures_found = λ v e c f n. refl;
      numbers_refused = λ number n. refl;
      figures_refused = λ number n. refl;
      greeks = λ delta gamma theta vega rho vanna volga. refl;
      money = λ strike volatility. refl;
      lengths = λ strikes expiries. refl;
      no_lengths = λ number. refl;
      refused_lengths = λ why. refl;
      built = λ strikes expiries. refl;
      not_built = λ number lengths n. rw (ne_eqb number 0 n);
      totals = λ spot rate k r h e. refl;
      book = λ o k r h e. refl;
    }
