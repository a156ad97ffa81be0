use Rattle.std.proofs.Common.{◌≡◌, ℕ, ◌++◌, List, ap, ◌∙◌, sym, get_or, arith, w64}
use Rattle.std.proofs.lemmas.Int.{to_z-of_z}
use Rattle.std.proofs.lemmas.List.{take_all}
use Rattle.vp_bars.specs.Symbologies.{gap_of}
use Rattle.vp_bars.specs.Widths.{sized, next_widths}
use Rattle.vp_bars.proofs.Draws.{total-append, draws_none, draws_same, draws_then, flat_more, flat_room}
use Rattle.vp_bars.proofs.Pieces.{handed_none, handed_then, handed_with}
use Rattle.vp_bars.proofs.strokes.Strokes.draw_next.Goals as goal

pub draw-gap-requires : goal.draw-gap-requires
draw-gap-requires c = grind (arith, flat_room, total-append)

pub character_width-width-requires : goal.character_width-width-requires
character_width-width-requires c = grind (arith, flat_room, total-append)

pub draw_some-character-requires : goal.draw_some-character-requires
draw_some-character-requires c = grind (arith, flat_room, total-append)

pub loop-v-init : goal.loop-v-init
loop-v-init c = (draws_none _ _ _ _, handed_none _ _ _, omega arith)

pub loop-v-preserved : goal.loop-v-preserved
loop-v-preserved c =
    let s = c.args.self.now in
    let sized_all : List ℕ → List ℕ = λ es. sized s.symbology s.narrow s.wide es in
    let v = get_or c.args.values.now c.loop-v.v-index 0 in
    let one : sized_all c.gap_of.result.now ++ sized_all c.pattern_of-elements.result.now ≡ next_widths s.symbology s.narrow s.wide v =
    ap (λ es. sized_all es ++ sized_all c.pattern_of-elements.result.now) c.gap_of.ensures ∙ ap (λ es. sized_all (gap_of s.symbology) ++ sized_all es) c.pattern_of-elements.ensures in (
      draws_same _ _ _ _ _ _ _ _ (flat_more (next_widths s.symbology s.narrow s.wide) c.args.values.now c.loop-v.v-index c.loop-v-test.true) (
          draws_then _ _ _ _ _ _ _ _ _ _ c.loop-v.invariant.0 (draws_same _ _ _ _ _ _ _ _ one (draws_then _ _ _ _ _ _ _ _ _ _ c.draw-gap.ensures.strokes c.draw_some-character.ensures.strokes))),
      handed_then _ _ _ c.loop-v.auto.row _ _ _ _ _ c.loop-v.invariant.1 (handed_with _ _ _ c.draw-gap.auto.row _ _ _ _ _ _ c.max-pieces.ensures c.draw-gap.ensures.pieces c.draw_some-character.ensures.pieces),
      omega (arith, c.loop-v.invariant.2, c.max-pieces.ensures, c.draw-gap.ensures.few, c.draw_some-character.ensures.few),
    )

pub returns-clause-strokes : goal.returns-clause-strokes
returns-clause-strokes c = grind (arith, take_all, to_z-of_z)

pub returns-clause-pieces : goal.returns-clause-pieces
returns-clause-pieces c = rw (sym (to_z-of_z w64 c.args.at c.ranges.at)) c.loop-v.invariant.1
