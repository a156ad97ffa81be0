use Rattle.std.proofs.Common.{arith}
use Rattle.vp_pdf417.specs.Sizes.{columns_of}
use Rattle.vp_pdf417.proofs.FirstFrom.{first_more, first_none}
use Rattle.vp_pdf417.proofs.size.Asked.columns_of.Goals as goal

pub loop-columns-preserved : goal.loop-columns-preserved
loop-columns-preserved c = grind (arith, first_more)

pub returns-then-fits-clause-columns : goal.returns-then-fits-clause-columns
unfolding columns_of
returns-then-fits-clause-columns c = grind (arith, first_more)

pub returns-clause-columns : goal.returns-clause-columns
unfolding columns_of
returns-clause-columns c = grind (arith, first_none)
