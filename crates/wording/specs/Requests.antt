-- What a line asks: by its name of six characters and its words. Another name asks nothing, nor does one with more words or fewer.
use Prim.Native.String.{String}
use Rattle.std.specs.Prelude.{ℕ, Bool, List, [], ◌∷◌, eqb, ltb, Float, Option, Some, None, option_map, bytes_eq, codes, if◌then◌else◌}
use Rattle.std.specs.Float.{binary64}
use Rattle.std.specs.Float.Ieee.{of_bits}
use Rattle.blackscholes.specs.declared.OptionParams.{OptionParams}
use Rattle.blackscholes.specs.declared.OptionType.{OptionType}
use Rattle.blackscholes.specs.declared.OptionType.TheVariants.{Call, Put}
use Rattle.ledger.specs.Model.{volatility, priced}
use Rattle.ledger.specs.Rows.{kind_of}
unfoldable pub use Rattle.ledger.specs.Rows.{option_of}
use Rattle.wording.specs.declared.Request.{Request}
use Rattle.wording.specs.declared.Request.TheVariants.{Open, Offer, Build, Read, Money, Price, Greeks, Ends}

-- A word as a float.
abbrev pub float : ℕ → Float
float word = of_bits binary64 word

-- "open: spot, rate"
abbrev pub opening : List ℕ → Option Request
opening (s ∷ r ∷ []) = Some (Open (record { spot = float s; rate = float r }))
opening _ = None

-- "call, put: strike, expiry, price"
abbrev pub price_offered : OptionType → List ℕ → Option Request
price_offered kind (k ∷ t ∷ m ∷ []) = Some (Offer (priced kind (float k) (float t) (float m)))
price_offered kind _ = None

-- "vol: strike, expiry, volatility"
abbrev pub volatility_offered : List ℕ → Option Request
volatility_offered (k ∷ t ∷ v ∷ []) = Some (Offer (volatility (float k) (float t) (float v)))
volatility_offered _ = None

abbrev pub build : List ℕ → Option Request
build [] = Some Build
build _ = None

-- "read: strike, expiry"
abbrev pub read : List ℕ → Option Request
read (k ∷ t ∷ []) = Some (Read (float k) (float t))
read _ = None

-- "money: expiry"
abbrev pub money : List ℕ → Option Request
money (t ∷ []) = Some (Money (float t))
money _ = None

-- "price, greeks: put (0 or 1), spot, strike, expiry, rate, volatility"
abbrev pub option : List ℕ → Option OptionParams
option (p ∷ s ∷ k ∷ t ∷ r ∷ v ∷ []) = if ltb 1 p then None else Some (option_of (eqb p 1) (float s) (float k) (float t) (float r) (float v))
option _ = None

-- "ends: put, strike, expiry, price"
abbrev pub ends : List ℕ → Option Request
ends (p ∷ k ∷ t ∷ m ∷ []) = if ltb 1 p then None else Some (Ends (kind_of (eqb p 1)) (float k) (float t) (float m))
ends _ = None

abbrev pub called : List ℕ → String → Bool
called name text = bytes_eq name (codes text)

unfoldable pub request_of : List ℕ → List ℕ → Option Request
request_of name words =
    if called name "open  " then opening words else
    (if called name "call  " then price_offered Call words else
    (if called name "put   " then price_offered Put words else
    (if called name "vol   " then volatility_offered words else
    (if called name "build " then build words else
    (if called name "read  " then read words else
    (if called name "money " then money words else
    (if called name "price " then option_map Price (option words) else
    (if called name "greeks" then option_map Greeks (option words) else
    (if called name "ends  " then ends words else None)))))))))
