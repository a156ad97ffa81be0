use Rattle.std.proofs.Common.{arith, ◌≡◌}
use Rattle.vp_glyph.proofs.Looks.{white_dot}
use Rattle.vp_glyph.proofs.Magnified.{magnified_none, magnified_more, mask_moved}
use Rattle.vp_glyph.proofs.look.widened.Goals as goal

pub loop-s-init : goal.loop-s-init
loop-s-init g c = grind (arith, white_dot, magnified_none)

pub loop-s-preserved : goal.loop-s-preserved
loop-s-preserved g c = grind (arith, magnified_more, mask_moved, c.loop-s.invariant.drawn)

pub returns : goal.returns
returns g c x = let e : c.loop-s.s ≡ g.row.N = omega arith in rw e at (c.loop-s.invariant.drawn x)
