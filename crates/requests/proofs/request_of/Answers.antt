-- `requests::request_of`: the last three arms, which the search gives up on. In each the name is the arm's text. Assumes nothing.
use Rattle.std.proofs.Common.{arith, rules, codes}
use Rattle.std.proofs.lemmas.Slice.Eq.{HasBytesAt, text_from_reads}
use Rattle.wording.specs.Requests.{request_of}
use Rattle.requests.proofs.request_of.Goals as goal

pub returns-in-112-2 : goal.returns-in-112-2
unfolding request_of
returns-in-112-2 c =
    let reads : HasBytesAt c.args.name.now 0 (codes "price ") = (omega arith, (omega arith, (omega arith, (omega arith, (omega arith, (omega arith, tt)))))) in
    rw (text_from_reads c.args.name.now (codes "price ") (search rules) reads) (search (rules, c.map.ensures))

pub returns-in-greeks : goal.returns-in-greeks
unfolding request_of
returns-in-greeks c = rw (text_from_reads c.args.name.now (codes "greeks") (search rules) (search rules)) (search (rules, c.map-in-greeks.ensures))

pub returns-in-101 : goal.returns-in-101
unfolding request_of
returns-in-101 c = rw (text_from_reads c.args.name.now (codes "ends  ") (search rules) (search rules)) c.ends.ensures
