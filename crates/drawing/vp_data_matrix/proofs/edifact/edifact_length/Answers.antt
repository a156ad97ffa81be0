use Rattle.std.proofs.Common.{arith, length-append}
use Rattle.vp_data_matrix.proofs.EdifactWords.{fours_more, fours_three, fours_two, fours_few, length-edifact}
use Rattle.vp_data_matrix.proofs.edifact.edifact_length.Goals as goal

pub loop-left-preserved : goal.loop-left-preserved
loop-left-preserved c = grind (arith, fours_more, length-append)

pub returns-in_default-left-clause-length : goal.returns-in_default-left-clause-length
returns-in_default-left-clause-length c = grind (arith, fours_few, length-edifact)

pub returns-in-len2-clause-length : goal.returns-in-len2-clause-length
returns-in-len2-clause-length c = grind (arith, fours_two, length-edifact)

pub returns-in-len3-up-clause-length : goal.returns-in-len3-up-clause-length
returns-in-len3-up-clause-length c = grind (arith, fours_three, length-append, length-edifact)
