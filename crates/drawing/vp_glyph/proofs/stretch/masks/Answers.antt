use Rattle.std.proofs.Common.{arith, ◌∙◌}
use Rattle.std.proofs.lemmas.List.{length-set}
use Rattle.vp_glyph.proofs.Masks.{mask_more}
use Rattle.vp_glyph.proofs.stretch.masks.Goals as goal

pub loop-s-preserved : goal.loop-s-preserved
loop-s-preserved c = record {
  count = length-set c.loop-s.masks c.loop-s.s c.mask.result ∙ c.loop-s.invariant.count;
  masks_are = mask_more c.args.width c.loop-s.s c.loop-s.masks c.mask.result _ _ (omega (arith, c.loop-s.invariant.count)) (omega arith) c.edge.ensures.edge c.edge-in-loop-s.ensures.edge c.mask.ensures c.loop-s.invariant.masks_are;
}
