-- The words, by computation. Assumes nothing.
use mathlib.Core.Path.{refl}
use lib.Ieee.{to_bits, round}
use borrow.Author.Tests.{lt-ltb}
use Rattle.brent.specs.Outcome.{zeros}
use Rattle.blackscholes.specs.declared.OptionType.TheVariants.{Call, Put}
use Rattle.wording.specs.Requests.{request_of, option_of}
use Rattle.wording.specs.Laws.{Laws}
use Rattle.wording.proofs.Counts.{opening_words, price_words, volatility_words, build_words, read_words, money_words, option_words, ends_words}

pub laws : Laws
unfolding request_of option_of zeros to_bits round
laws =
    record {
      offer_found = λ v e c f n. refl;
      offer_refused = λ number n. refl;
      value = λ v. refl;
      money = λ strike volatility. refl;
      no_money_lem = λ number. refl;
      greeks = λ delta gamma theta vega rho vanna volga. refl;
      cell = λ v count. refl;
      built = λ strikes expiries. refl;
      not_built = λ number. refl;
      no_ends = λ market p h. rw h;
      ends = λ market s k t r v kind h. rw h;
      asks_open = λ s r. refl;
      asks_call = λ k t m. refl;
      asks_put = λ k t m. refl;
      asks_vol = λ k t v. refl;
      asks_build = refl;
      asks_read = λ k t. refl;
      asks_money = λ t. refl;
      asks_price = λ s k t r v. refl;
      asks_greeks = λ s k t r v. refl;
      asks_ends = λ k t m. refl;
      misspelt = λ xs. (refl, refl, refl, refl, refl, refl);
      no_kind = λ s k t r v. refl;
      too_few = λ s k t r. refl;
      too_many = λ s k t r v x xs. refl;
      no_kind_of_price = λ s k t r v. refl;
      no_kind_of_ends = λ k t m. refl;
      kinds_of_price = λ p s k t r v h. rw (lt-ltb 1 p h);
      kinds_of_greeks = λ p s k t r v h. rw (lt-ltb 1 p h);
      kinds_of_ends = λ p k t m h. rw (lt-ltb 1 p h);
      words_of_open = opening_words;
      words_of_call = price_words Call;
      words_of_put = price_words Put;
      words_of_vol = volatility_words;
      words_of_build = build_words;
      words_of_read = read_words;
      words_of_money = money_words;
      words_of_price = λ xs other. rw (option_words xs other);
      words_of_greeks = λ xs other. rw (option_words xs other);
      words_of_ends = ends_words;
    }
