use Rattle.std.proofs.Common.{◌∙◌, ◌++◌, ap, sym, take, get_or, arith, w64}
use Rattle.std.proofs.lemmas.Int.{to_z-of_z}
use Rattle.vp_bars.specs.Elements.{left_elements, left_elements_of}
use Rattle.vp_bars.specs.Symbologies.{size_of}
use Rattle.vp_bars.specs.Widths.{sized}
use Rattle.vp_bars.proofs.Draws.{draws_none, draws_same, draws_then, map_append}
use Rattle.vp_bars.proofs.Halves.{left_more, left_room, left_all}
use Rattle.vp_bars.proofs.Pieces.{handed_none, handed_then}
use Rattle.vp_bars.proofs.strokes.Strokes.draw_left.Goals as goal

pub draw-digit-requires : goal.draw-digit-requires
draw-digit-requires c = grind (arith, left_room)

pub loop-i-init : goal.loop-i-init
loop-i-init c = (draws_none _ _ _ _, handed_none _ _ _, omega arith)

pub loop-i-preserved : goal.loop-i-preserved
loop-i-preserved c =
    let s = c.args.self.now in
    let so_far = left_elements (take c.loop-i.i c.args.sets.now) (take c.loop-i.i c.args.digits.now) in
    let one = left_elements_of (get_or c.args.sets.now c.loop-i.i 0) (get_or c.args.digits.now c.loop-i.i 0) in
    let joined = ap (λ es. sized s.symbology s.narrow s.wide so_far ++ sized s.symbology s.narrow s.wide es) c.left_digit.ensures
    ∙ sym (map_append (size_of s.symbology s.narrow s.wide) so_far one)
    ∙ ap (sized s.symbology s.narrow s.wide) (left_more c.args.sets.now c.args.digits.now c.loop-i.i (omega arith) (omega arith)) in (
      draws_same _ _ _ _ _ _ _ _ joined (draws_then _ _ _ _ _ _ _ _ _ _ c.loop-i.invariant.0 c.draw-digit.ensures.strokes),
      handed_then _ _ _ c.loop-i.auto.row _ _ _ _ _ c.loop-i.invariant.1 c.draw-digit.ensures.pieces,
      omega (arith, c.loop-i.invariant.2, c.draw-digit.ensures.few),
    )

pub returns-clause-strokes : goal.returns-clause-strokes
returns-clause-strokes c = grind (arith, left_all, to_z-of_z)

pub returns-clause-pieces : goal.returns-clause-pieces
returns-clause-pieces c = rw (sym (to_z-of_z w64 c.args.at c.ranges.at)) c.loop-i.invariant.1
