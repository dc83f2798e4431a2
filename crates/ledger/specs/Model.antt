-- What a model is to the book: a price for every option on the opening's inputs. Tally and claim hold for each of them; `bsm` alone knows Black and Scholes.
use Rattle.std.specs.Prelude.{Bool, false, not, Float}
use Rattle.limits.specs.Ranges.{is_price, is_volatility}
use Rattle.blackscholes.specs.Model.{price}
use Rattle.blackscholes.specs.declared.OptionType.{OptionType}
use Rattle.ledger.specs.declared.Offer.{Offer}
-- S-6 will put the yield into an opening.
use Rattle.ledger.specs.declared.Opening.{Opening}
use Rattle.ledger.specs.declared.Terms.{Terms}
use Rattle.ledger.specs.declared.Terms.TheVariants.{Volatility, Price}

-- The price at a volatility, of an option by its kind, strike and expiry.
abbrev pub Model : Type 0
Model = Opening → OptionType → Float → Float → Float → Float

abbrev pub bsm : Model
bsm o kind strike expiry v =
    price (record {
      spot = o.spot;
      strike = strike;
      time_to_expiry = expiry;
      risk_free_rate = o.rate;
      volatility = v;
      option_type = kind;
    })

-- "An offer is a strike and an expiry with a volatility, or with a call or put price." The struct of the code, made by its terms.
abbrev pub volatility : Float → Float → Float → Offer
volatility strike expiry v = record { strike = strike; expiry = expiry; terms = Volatility v }

abbrev pub priced : OptionType → Float → Float → Float → Offer
priced kind strike expiry market = record { strike = strike; expiry = expiry; terms = Price kind market }

-- The model's prices of an offer's option, call or put, at a volatility.
abbrev pub prices_of : Model → Opening → Offer → OptionType → Float → Float
prices_of model opening o kind = model opening kind o.strike o.expiry

-- "Each call makes those checks below that concern its inputs": 5 concerns a price, 10 an offered volatility.
abbrev pub bad_price : Terms → Bool
bad_price (Volatility v) = false
bad_price (Price kind market) = not (is_price market)

abbrev pub bad_volatility : Terms → Bool
bad_volatility (Volatility v) = not (is_volatility v)
bad_volatility (Price kind market) = false
