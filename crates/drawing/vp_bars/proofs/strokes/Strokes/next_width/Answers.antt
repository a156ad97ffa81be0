use Rattle.std.proofs.lemmas.Grind.{common_steps}
use Rattle.std.proofs.Common.{arith}
use Rattle.std.proofs.lemmas.List.{take_all}
use Rattle.vp_bars.proofs.Draws.{total-append, flat_more, flat_room}
use Rattle.vp_bars.proofs.strokes.Strokes.next_width.Goals as goal

pub character_width-requires : goal.character_width-requires
character_width-requires c = grind (arith, flat_room, total-append)

pub overflow_add-width : goal.overflow_add-width
overflow_add-width c = grind (arith, flat_room, total-append)

pub overflow_add-width-in-loop-v : goal.overflow_add-width-in-loop-v
overflow_add-width-in-loop-v c = grind (arith, flat_room, total-append)

pub loop-v-preserved : goal.loop-v-preserved
loop-v-preserved c = grind (arith, common_steps, flat_more, total-append)

pub returns : goal.returns
returns c = grind (arith, take_all)
