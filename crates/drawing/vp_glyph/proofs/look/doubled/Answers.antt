use Rattle.vp_glyph.proofs.Magnified.{doubled_dot}
use Rattle.vp_glyph.proofs.look.doubled.Goals as goal

pub returns : goal.returns
returns c = doubled_dot c.args.word c.shared-twelve.result c.spread-eights.result c.spread-fours.result c.spread-twos.result c.spread-ones.result c.spread.result
    c.shared-twelve.ensures c.spread-eights.ensures c.spread-fours.ensures c.spread-twos.ensures c.spread-ones.ensures c.spread.ensures
