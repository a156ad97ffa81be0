use Rattle.std.proofs.Common.{arith}
use Rattle.vp_aztec.specs.Sizes.{smallest}
use Rattle.vp_aztec.proofs.FirstFrom.{first_more, first_none}
use Rattle.vp_aztec.proofs.size.Asked.smallest.Goals as goal

pub loop-k-preserved : goal.loop-k-preserved
loop-k-preserved c = grind (arith, first_more)

pub returns-then-fits-clause-number : goal.returns-then-fits-clause-number
unfolding smallest
returns-then-fits-clause-number c = grind (arith, first_more)

pub returns-clause-number : goal.returns-clause-number
unfolding smallest
returns-clause-number c = grind (arith, first_none)
