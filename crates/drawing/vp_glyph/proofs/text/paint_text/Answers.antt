use Rattle.std.proofs.Common.{sym, w64}
use Rattle.std.proofs.lemmas.Int.{to_z-of_z}
use Rattle.vp_glyph.proofs.text.paint_text.Goals as goal

pub returns-in-Twice-clause-some : goal.returns-in-Twice-clause-some
returns-in-Twice-clause-some g c = rw (sym (to_z-of_z w64 c.args.at c.ranges.at)) c.paint_short.ensures.some

pub returns-in-ByMasks-clause-some : goal.returns-in-ByMasks-clause-some
returns-in-ByMasks-clause-some g c = rw (sym (to_z-of_z w64 c.args.at c.ranges.at)) c.paint_short-in-ByMasks.ensures.some

pub returns-in-Black-clause-some : goal.returns-in-Black-clause-some
returns-in-Black-clause-some g c = rw (sym (to_z-of_z w64 c.args.at c.ranges.at)) c.paint_cells.ensures.some

pub returns-in-White-clause-some : goal.returns-in-White-clause-some
returns-in-White-clause-some g c = rw (sym (to_z-of_z w64 c.args.at c.ranges.at)) c.paint_cells-in-White.ensures.some

pub returns-in-Flip-clause-some : goal.returns-in-Flip-clause-some
returns-in-Flip-clause-some g c = rw (sym (to_z-of_z w64 c.args.at c.ranges.at)) c.paint_cells-in-Flip.ensures.some
