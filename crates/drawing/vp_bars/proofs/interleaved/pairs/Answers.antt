use Rattle.std.proofs.Common.{sym, arith}
use Rattle.vp_bars.proofs.PairsOfDigits.{pairs_done}
use Rattle.vp_bars.proofs.interleaved.pairs.Goals as goal

pub returns-clause-pairs : goal.returns-clause-pairs
returns-clause-pairs c = sym (pairs_done _ _ _ (omega arith) c.loop-k.invariant.all)
