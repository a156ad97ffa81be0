use Rattle.vp_qr.proofs.PairRows.{bits_ahead}
use Rattle.vp_qr.proofs.walk.refilled.Goals as goal

pub returns-clause-bits : goal.returns-clause-bits
returns-clause-bits c = bits_ahead c.args.codewords.now c.word_at.result c.args.k c.word_at.ensures
