use Rattle.std.proofs.Common.{ℕ, true, arith, ap, length, take}
use Rattle.vp_data_matrix.specs.Triples.{values, unlatch}
use Rattle.vp_data_matrix.proofs.TripleWords.{length-triples}
use Rattle.vp_data_matrix.proofs.triple.Charset.length.Goals as goal

pub returns-clause-length : goal.returns-clause-length
returns-clause-length c =
    let whole = length-triples true c.args.self c.args.src.now c.front-front.result.bytes c.front-front.ensures.bytes in
    let values_are = ap (λ (n : ℕ). length (values c.args.self (take n c.args.src.now))) c.front-front.ensures.bytes in
    let unlatched = ap (λ (n : ℕ). length (unlatch true n)) c.ascii_length-left.ensures.length in
    omega arith
