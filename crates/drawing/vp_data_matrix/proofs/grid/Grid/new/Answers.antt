use Rattle.std.proofs.Common.{refl}
use Rattle.vp_data_matrix.proofs.Laid.{none_laid}
use Rattle.vp_data_matrix.proofs.grid.Grid.new.Goals as goal

pub returns-clause-laid : goal.returns-clause-laid
returns-clause-laid c = λ codewords. record { count = refl; cells_are = λ i j hi hj. none_laid 132 132 i j }
