use Rattle.std.proofs.Common.{arith}
use Rattle.vp_format.proofs.Skipped.{read_to}
use Rattle.vp_field.proofs.picture_rows.PictureRows.skip_to.Goals as goal

pub returns-clause-rows : goal.returns-clause-rows
returns-clause-rows c = grind (arith, read_to)
