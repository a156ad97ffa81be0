use Rattle.std.proofs.Common.{arith, get_or, ◌≡◌}
use Rattle.vp_glyph.proofs.Gathered.{three_eights}
use Rattle.vp_glyph.proofs.fronts.inked_of.Goals as goal

pub returns : goal.returns
returns c = λ s l z. three_eights (λ t. get_or c.args.rows.now t 0 ≡ 0) c.inked.result _ _ 16 s c.inked-2.ensures.few c.inked-3.ensures.few (omega arith) l c.inked.ensures.white c.inked-2.ensures.white c.inked-3.ensures.white z
