use Rattle.std.proofs.Common.{arith}
use Rattle.vp_strips.proofs.Rows.{take_row}
use Rattle.vp_strips.proofs.strip.Strip.write_row.Goals as goal

pub returns : goal.returns
returns g c = grind (arith, take_row)
