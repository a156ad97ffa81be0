use Rattle.std.proofs.Common.{refl}
use Rattle.vp_glyph.proofs.Parts.{spacing_dot}
use Rattle.vp_glyph.proofs.cell.spacing_of.Goals as goal

pub returns-clause-dots : goal.returns-clause-dots
returns-clause-dots c = λ x y. spacing_dot c.args.font c.args.style x y _ _ _ c.requires (rw (c.width.ensures, c.from-wm.ensures) refl) (rw (c.from.ensures, c.from-wm.ensures) refl) c.height_of.ensures
