use Rattle.std.proofs.Common.{arith}
use Rattle.vp_bars.proofs.BoxRows.{bars_alike}
use Rattle.vp_bars.proofs.bar_box.alike_rows.Goals as goal

pub returns-clause-same : goal.returns-clause-same
returns-clause-same c = grind (arith, bars_alike)
