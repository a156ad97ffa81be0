use Rattle.std.proofs.Common.{arith, get_or, ◌≡◌, ◌+◌}
use Rattle.vp_glyph.proofs.Gathered.{three_eights}
use Rattle.vp_glyph.proofs.fronts.edges_of.Goals as goal

pub returns : goal.returns
returns c = λ s l z. three_eights (λ t. get_or c.args.rows.now (t + 1) 0 ≡ get_or c.args.rows.now t 0) c.edges.result _ _ 15 s c.edges-2.ensures.few c.edges-3.ensures.few (omega arith) l c.edges.ensures.alike c.edges-2.ensures.alike c.edges-3.ensures.alike z
