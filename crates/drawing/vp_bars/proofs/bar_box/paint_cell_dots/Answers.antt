use Rattle.std.proofs.Common.{arith}
use Rattle.std.proofs.lemmas.Grind.{common_steps}
use Rattle.std.proofs.lemmas.Int.{to_z-of_z}
use Rattle.vp_bars.proofs.Paints.{drawn_all}
use Rattle.vp_bars.proofs.TextLines.{cell_past}
use Rattle.vp_bars.proofs.bar_box.paint_cell_dots.Goals as goal

pub returns : goal.returns
returns g c = grind (arith, to_z-of_z, drawn_all, cell_past)

pub loop-x-preserved : goal.loop-x-preserved
loop-x-preserved g c = grind (arith, common_steps)
