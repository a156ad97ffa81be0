use Rattle.std.proofs.Common.{arith}
use Rattle.vp_glyph.proofs.Cuts.{rows_are}
use Rattle.vp_glyph.proofs.sheet.Sheet.rows_of.Goals as goal

pub returns : goal.returns
returns g c = grind (arith, rows_are, c.deref.ensures.value)
