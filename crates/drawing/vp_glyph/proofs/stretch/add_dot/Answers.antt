use Rattle.std.proofs.Common.{arith, ◌∙◌}
use Rattle.std.proofs.lemmas.List.{length-set}
use Rattle.vp_glyph.proofs.Gathered.{grown_more, grown_all}
use Rattle.vp_glyph.proofs.stretch.add_dot.Goals as goal

pub loop-r-preserved : goal.loop-r-preserved
loop-r-preserved c = record {
  count = length-set c.loop-r.rows c.loop-r.r _ ∙ c.loop-r.invariant.count;
  grown = grown_more _ c.loop-r.r c.picked_half.result _ _ (omega (arith, c.loop-r.invariant.count)) (λ d l. c.picked_half.ensures d) c.loop-r.invariant.grown;
}

pub returns : goal.returns
returns c = grown_all _ c.loop-r.r _ _ (omega arith) c.loop-r.invariant.grown
