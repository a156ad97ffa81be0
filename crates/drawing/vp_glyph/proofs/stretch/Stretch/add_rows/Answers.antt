use Rattle.std.proofs.Common.{arith, ◌∙◌, sym, ap, w64, to_z, of_z}
use Rattle.std.proofs.lemmas.Int.{to_z-of_z}
use Rattle.std.proofs.lemmas.List.{length-set}
use Rattle.vp_dots.specs.Dots.{shifted}
use Rattle.vp_dots.specs.Words.{word_dot}
use Rattle.vp_glyph.proofs.Gathered.{grown_more, grown_all}
use Rattle.vp_glyph.proofs.Spread.{ink}
use Rattle.vp_glyph.proofs.stretch.Stretch.add_rows.Goals as goal

pub loop-s-preserved : goal.loop-s-preserved
loop-s-preserved c = record {
  count = length-set c.loop-s.rows c.loop-s.s _ ∙ c.loop-s.invariant.count;
  grown = grown_more _ c.loop-s.s c.left_half.result _ _ (omega (arith, c.loop-s.invariant.count))
      (λ d l. c.left_half.ensures d l ∙ c.front.ensures d (omega arith) ∙ ap (λ v. shifted (to_z w64 (of_z w64 c.args.at)) (ink 12 (word_dot v) c.args.left c.args.self.now.width) d) c.row_at.ensures) c.loop-s.invariant.grown;
}

pub returns : goal.returns
returns c = rw (sym (to_z-of_z w64 c.args.at c.ranges.at)) (grown_all _ c.loop-s.s _ _ (omega arith) c.loop-s.invariant.grown)
