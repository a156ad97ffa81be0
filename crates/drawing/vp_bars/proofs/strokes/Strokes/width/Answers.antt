use Rattle.std.proofs.lemmas.Grind.{common_steps}
use Rattle.std.proofs.Common.{arith}
use Rattle.std.proofs.lemmas.List.{take_all}
use Rattle.vp_bars.proofs.Draws.{total-append, map_more, map_room}
use Rattle.vp_bars.proofs.strokes.Strokes.width.Goals as goal

pub overflow_add-width : goal.overflow_add-width
overflow_add-width c = grind (arith, map_room)

pub loop-e-preserved : goal.loop-e-preserved
loop-e-preserved c = grind (arith, common_steps, total-append, map_more)

pub returns : goal.returns
returns c = grind (arith, take_all)
