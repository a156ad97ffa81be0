use Rattle.std.proofs.Common.{arith}
use Rattle.std.proofs.lemmas.Int.{to_z-of_z}
use Rattle.std.proofs.lemmas.List.{take_all}
use Rattle.vp_bars.specs.Symbologies.{size_of}
use Rattle.vp_bars.proofs.Draws.{draws_same, draws_then, map_more, map_room}
use Rattle.vp_bars.proofs.strokes.Strokes.draw_each.Goals as goal

pub draw-pen-requires : goal.draw-pen-requires
draw-pen-requires c = grind (arith, map_room)

pub loop-e-preserved : goal.loop-e-preserved
loop-e-preserved c =
    let size = size_of c.args.self.now.symbology c.args.self.now.narrow c.args.self.now.wide in
    draws_same _ _ _ _ _ _ _ _ (rw c.size.ensures (map_more size c.args.elements.now c.loop-e.e-index c.loop-e-test.true))
    (draws_then _ _ _ _ _ _ _ _ _ _ c.loop-e.invariant c.draw-pen.ensures)

pub returns : goal.returns
returns c = grind (arith, take_all, to_z-of_z)
