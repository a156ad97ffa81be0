use Rattle.std.proofs.Common.{arith, length-append}
use Rattle.vp_data_matrix.proofs.Words.{ascii_pair, ascii_one, ascii_last, ascii_none}
use Rattle.vp_data_matrix.proofs.ascii.ascii_length.Goals as goal

pub loop-left-preserved-then-are_digits : goal.loop-left-preserved-then-are_digits
loop-left-preserved-then-are_digits c = grind (arith, ascii_pair, length-append)

pub loop-left-preserved : goal.loop-left-preserved
loop-left-preserved c = grind (arith, ascii_one, length-append)

pub returns-in_default-left-clause-length : goal.returns-in_default-left-clause-length
returns-in_default-left-clause-length c = grind (arith, ascii_none)

pub returns-in-len1-up-clause-length : goal.returns-in-len1-up-clause-length
returns-in-len1-up-clause-length c = grind (arith, ascii_last)
