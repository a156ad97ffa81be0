use Rattle.std.proofs.Common.{arith, get_or-set_same, get_or-set_other}
use Rattle.std.proofs.lemmas.List.{length-set}
use Rattle.vp_glyph.proofs.sheet.inked_cells.Goals as goal

pub loop-c-preserved : goal.loop-c-preserved
loop-c-preserved g c = grind (arith, length-set, get_or-set_same, get_or-set_other, c.loop-c.invariant.room)
