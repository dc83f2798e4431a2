-- `greeks::Prepared::greeks`: line for line the definitions, with one probability for both kinds. Assumes nothing.
use lib.Ieee.{of_bits, round}
use Rattle.blackscholes.specs.Model.{discount, spread, d1, d2}
use Rattle.blackscholes.specs.Greeks.{greeks}
use Rattle.blackscholes.proofs.CallOrPut.{by_kind}
use Rattle.greeks.proofs.Prepared.greeks.Goals as goal

pub returns : goal.returns
unfolding greeks discount spread d1 d2 of_bits round
returns c =
    simp (
      c.of_kind-4.ensures,
      c.of_kind-3.ensures,
      c.of_kind-2.ensures,
      c.pdf-density.ensures,
      c.cdf_pair-n.ensures,
      c.of_kind.ensures,
      c.deviates-d.ensures,
      c.args.self.square_root,
      c.args.self.discounted,
    )
    (by_kind c.args.self.option.option_type (λ k. simp k) (λ k. simp k))
