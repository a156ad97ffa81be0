use Rattle.vp_glyph.proofs.Looks.{and_dot}
use Rattle.vp_glyph.proofs.look.shared.Goals as goal

pub returns : goal.returns
returns c x = and_dot c.args.one c.args.other x
