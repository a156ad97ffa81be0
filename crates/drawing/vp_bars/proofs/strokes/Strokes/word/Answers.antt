use Rattle.std.proofs.Common.{arith}
use Rattle.std.proofs.lemmas.List.{take_all}
use Rattle.vp_bars.specs.Symbologies.{size_of}
use Rattle.vp_bars.proofs.Draws.{map_more, map_room}
use Rattle.vp_bars.proofs.WordBars.{marked_none, marked_more, marked_same}
use Rattle.vp_bars.proofs.strokes.Strokes.word.Goals as goal

pub loop-e-init : goal.loop-e-init
loop-e-init c = marked_none c.args.bar

pub marked-word-requires : goal.marked-word-requires
marked-word-requires c = grind (arith, map_room)

pub moved-pen-requires : goal.moved-pen-requires
moved-pen-requires c = grind (arith, map_room)

pub loop-e-preserved : goal.loop-e-preserved
loop-e-preserved c =
    let s = c.args.self.now in
    marked_same _ _ _ _ _ _ _ _ (rw c.size-width.ensures (map_more (size_of s.symbology s.narrow s.wide) c.args.elements.now c.loop-e.e-index c.loop-e-test.true))
    c.moved-pen.ensures.x c.moved-pen.ensures.bar
    (marked_more c.args.bar _ c.loop-e.word c.loop-e.pen.x c.loop-e.pen.bar c.size-width.result c.marked-word.result c.loop-e.invariant c.marked-word.ensures)

pub returns : goal.returns
returns c = grind (arith, take_all)
