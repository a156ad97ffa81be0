use Rattle.std.proofs.Common.{◌≡◌, true, ap, length, arith}
use Rattle.vp_data_matrix.specs.declared.message.Scheme.{Scheme}
use Rattle.vp_data_matrix.specs.Messages.{takes, encoded, scheme_of}
use Rattle.vp_data_matrix.proofs.SchemeWords.{fewest}
use Rattle.vp_data_matrix.proofs.message.Choice.of.Goals as goal

pub returns-clause-fewest : goal.returns-clause-fewest
returns-clause-fewest c = λ (s : Scheme) (h : takes s c.args.src.now ≡ true).
    let scheme : c.or-5.result.scheme ≡ scheme_of c.args.src.now = cc in
    omega (arith, c.or-5.ensures.length, ap (λ (one : Scheme). length (encoded true one 0 c.args.src.now)) scheme, fewest c.args.src.now s h)
