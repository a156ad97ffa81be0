use Rattle.vp_data_matrix.proofs.SizeTable.{sound_in, size_found}
use Rattle.vp_data_matrix.proofs.size.Size.at.Goals as goal

pub returns-clause-size : goal.returns-clause-size
returns-clause-size c = size_found c.table.result.now c.args.k c.size_in.result c.table.ensures c.size_in.ensures

pub returns-clause-sound : goal.returns-clause-sound
returns-clause-sound c = sound_in c.table.result.now c.args.k c.size_in.result c.table.ensures c.size_in.ensures c.requires
