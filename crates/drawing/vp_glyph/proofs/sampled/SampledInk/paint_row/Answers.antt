use Rattle.std.proofs.Common.{sym, w64}
use Rattle.std.proofs.lemmas.Int.{to_z-of_z}
use Rattle.vp_glyph.proofs.Drawn.{sampled_narrow, sampled_first}
use Rattle.vp_glyph.proofs.sampled.SampledInk.paint_row.Goals as goal

pub returns-then-self-eq0 : goal.returns-then-self-eq0
returns-then-self-eq0 g c = sampled_narrow _ _ _ _ _ _ _ _ c.if-self-eq0.true

pub returns : goal.returns
returns g c = rw (sym (to_z-of_z w64 c.args.at c.ranges.at)) (sampled_first _ _ _ _ _ _ _ _ _ c.paint_from.ensures)
