use Rattle.std.proofs.Common.{arith, sym, ◌∙◌, rules, w64, to_z, of_z}
use mir.Val.{SFits}
use Rattle.std.proofs.lemmas.Int.{to_z-of_z}
use Rattle.vp_bars.proofs.Paints.{moved_same}
use Rattle.vp_bars.proofs.Pieces.{not_reached, handed_not, handed_shown}
use Rattle.vp_bars.proofs.Regular.{draws_unseen}
use Rattle.vp_bars.proofs.WordBars.{draws_at_once, place_sum}
use Rattle.vp_bars.proofs.strokes.Strokes.draw_some.Goals as goal

pub returns-then-not-is_shown-clause-strokes : goal.returns-then-not-is_shown-clause-strokes
returns-then-not-is_shown-clause-strokes c =
    rw (sym (to_z-of_z w64 c.args.at c.ranges.at)) (draws_unseen _ _ _ _ _ _ c.behind-next.ensures.x c.behind-next.ensures.bar
    (not_reached _ _ _ _ (sym c.is_shown.ensures ∙ c.if-not-is_shown.true)))

pub returns-then-not-is_shown-clause-pieces : goal.returns-then-not-is_shown-clause-pieces
returns-then-not-is_shown-clause-pieces c = grind (arith, to_z-of_z, handed_not)

pub returns-then-width-ge64-clause-pieces : goal.returns-then-width-ge64-clause-pieces
returns-then-width-ge64-clause-pieces c = grind (arith, to_z-of_z, handed_shown)

pub returns-clause-strokes : goal.returns-clause-strokes
returns-clause-strokes c =
    let fits : SFits w64 c.from.result = search rules in
    let place = place_sum c.args.at c.from.result c.in-Some.place c.args.pen.x c.ranges.at fits c.from.ensures c.in-Some.ensures in
    draws_at_once _ _ (to_z w64 (of_z w64 c.in-Some.place)) _ _ _ _ _ c.behind-next.ensures.x c.behind-next.ensures.bar place
    (moved_same _ _ _ _ _ _ c.word.ensures c.paint_word.ensures)

pub returns-clause-pieces : goal.returns-clause-pieces
returns-clause-pieces c = grind (arith, to_z-of_z, handed_shown)
