use Rattle.std.proofs.Common.{arith}
use Rattle.vp_glyph.proofs.Parts.{underline_dot}
use Rattle.vp_glyph.proofs.cell.underline_of.Goals as goal

pub returns-clause-dots : goal.returns-clause-dots
returns-clause-dots c = λ x y. underline_dot c.args.font c.args.style x y _ _ _ c.requires (omega arith) c.width_of.ensures (omega arith)
