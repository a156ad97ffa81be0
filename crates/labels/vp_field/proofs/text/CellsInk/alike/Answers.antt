use Rattle.std.proofs.Common.{arith}
use Rattle.vp_glyph.proofs.Gathered.{text_alike}
use Rattle.vp_field.proofs.text.CellsInk.alike.Goals as goal

pub returns-clause-same : goal.returns-clause-same
returns-clause-same g c = grind (arith, text_alike)
