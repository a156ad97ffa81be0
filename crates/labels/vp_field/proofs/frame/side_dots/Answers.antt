use Rattle.vp_field.proofs.Framed.{outer_word}
use Rattle.vp_field.proofs.frame.side_dots.Goals as goal

pub returns : goal.returns
returns c x = outer_word c.args.t c.args.r c.args.w x _ _ _ c.requires.apart c.requires.within (c.first_dots.ensures x) (c.first_dots-2.ensures x) (c.first_dots-3.ensures x)
