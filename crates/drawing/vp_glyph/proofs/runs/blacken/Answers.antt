use Rattle.std.proofs.Common.{◌∙◌, ap, sym, arith, get_or}
use Rattle.std.proofs.lemmas.List.{length-set}
use Rattle.vp_dots.specs.Dots.{dot, bit}
use Rattle.vp_dots.specs.Painting.{paint}
use Rattle.vp_dots.specs.declared.Op.TheVariants.{Black}
use Rattle.vp_dots.proofs.Bits.{bit_of_or}
use Rattle.vp_dots.proofs.Rows.{dot_at}
use Rattle.vp_dots.proofs.Paints.{bytes_more}
use Rattle.vp_glyph.proofs.Passed.{bytes_done}
use Rattle.vp_glyph.proofs.runs.blacken.Goals as goal

pub loop-i-preserved : goal.loop-i-preserved
loop-i-preserved g c = record {
  count = length-set c.loop-i.row c.loop-i.i _ ∙ c.loop-i.invariant.count;
  painted = bytes_more _ (dot c.args.ink.now) c.loop-i.i _ _ _ (omega (arith, c.loop-i.invariant.count)) c.loop-i.invariant.painted
      (λ k h. bit_of_or (get_or c.loop-i.row c.loop-i.i 0) (get_or c.args.ink.now c.loop-i.i 0) k ∙ ap (λ b. paint Black b (bit (get_or c.loop-i.row c.loop-i.i 0) k)) (sym (dot_at c.args.ink.now c.loop-i.i k h)));
}

pub returns : goal.returns
returns g c = λ x h. bytes_done g.row.B c.loop-i.i x c.args.ink.now c.args.row.now _ (omega arith) c.told-row h c.loop-i.invariant.painted
