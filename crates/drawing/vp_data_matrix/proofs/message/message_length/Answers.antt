use Rattle.std.proofs.Common.{true, arith, ap, length}
use Rattle.vp_data_matrix.specs.declared.message.Scheme.{Scheme}
use Rattle.vp_data_matrix.specs.Messages.{encoded}
use Rattle.vp_data_matrix.proofs.SchemeWords.{length-message}
use Rattle.vp_data_matrix.proofs.message.message_length.Goals as goal

pub returns : goal.returns
returns c = omega (arith, length-message c.args.lead c.args.src.now, ap (λ (s : Scheme). length (encoded true s 0 c.args.src.now)) c.of.ensures.scheme)
