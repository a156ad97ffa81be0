use Rattle.std.proofs.Common.{arith}
use Rattle.vp_glyph.proofs.Pieces.{behind_all, behind_more}
use Rattle.vp_glyph.proofs.lines.behind_cells.Goals as goal

pub unreachable-requires : goal.unreachable-requires
unreachable-requires c = grind (arith, behind_all)

pub loop-i-preserved : goal.loop-i-preserved
loop-i-preserved c = behind_more c.loop-i._i _ _ _ _ c.loop-i.invariant c.in-Some.ensures
