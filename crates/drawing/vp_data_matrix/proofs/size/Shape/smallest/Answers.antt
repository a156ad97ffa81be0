use Rattle.std.proofs.Common.{arith}
use Rattle.vp_data_matrix.specs.Sizes.{smallest}
use Rattle.vp_data_matrix.proofs.SizeTable.{first_more, first_none, fits_room}
use Rattle.vp_data_matrix.proofs.size.Shape.smallest.Goals as goal

pub loop-k-preserved : goal.loop-k-preserved
loop-k-preserved c = grind (arith, first_more)

pub returns-then-fits-clause-number : goal.returns-then-fits-clause-number
unfolding smallest
returns-then-fits-clause-number c = grind (arith, first_more)

pub returns-then-fits-clause-room : goal.returns-then-fits-clause-room
returns-then-fits-clause-room c = grind (arith, fits_room)

pub returns-clause-number : goal.returns-clause-number
unfolding smallest
returns-clause-number c = grind (arith, first_none)
