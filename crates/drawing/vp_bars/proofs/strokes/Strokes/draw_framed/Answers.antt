use Rattle.std.proofs.lemmas.Grind.{common_steps}
use Rattle.std.proofs.Common.{◌++◌, ap, ◌∙◌, sym, arith, w64}
use Rattle.std.proofs.lemmas.Int.{to_z-of_z}
use Rattle.std.specs.List.{flat_map}
use Rattle.vp_bars.specs.Symbologies.{start_of}
use Rattle.vp_bars.specs.Widths.{sized, next_widths}
use Rattle.vp_bars.proofs.Draws.{draws_same, draws_then}
use Rattle.vp_bars.proofs.Regular.{Framed, framed_of, regular_total}
use Rattle.vp_bars.proofs.Pieces.{handed_then}
use Rattle.vp_bars.proofs.strokes.Strokes.draw_framed.Goals as goal
use Rattle.vp_bars.proofs.strokes.Strokes.draw_framed.Goals.{After-split_at}

-- the regular characters, and the last ones
parts : (c : After-split_at) → let s = c.args.self.now in
    Framed s.symbology s.narrow s.wide s.values.now c.split_at.result.0.now c.split_at.result.1.now
parts c = grind (arith, common_steps, framed_of)

pub draw-one-requires : goal.draw-one-requires
draw-one-requires c =
    let p = parts (goal.at.draw-one-requires c).After-split_at in
    rw c.start_of.ensures (omega (arith, p.total_is, c.requires))

pub draw_regular-more-requires-clause-regular : goal.draw_regular-more-requires-clause-regular
draw_regular-more-requires-clause-regular c =
    let p = parts (goal.at.draw_regular-more-requires-clause-regular c).After-split_at in
    p.regular

pub draw_regular-more-requires-clause-room : goal.draw_regular-more-requires-clause-room
draw_regular-more-requires-clause-room c =
    let s = c.args.self.now in
    let p = parts (goal.at.draw_regular-more-requires-clause-room c).After-split_at in
    let first = rw c.start_of.ensures at c.draw-one.ensures.strokes.ends in
    omega (arith, p.total_is, regular_total s.symbology s.narrow s.wide c.split_at.result.0.now p.regular, first, c.requires)

pub draw_next-rest-requires : goal.draw_next-rest-requires
draw_next-rest-requires c =
    let s = c.args.self.now in
    let p = parts (goal.at.draw_next-rest-requires c).After-split_at in
    let first = rw c.start_of.ensures at c.draw-one.ensures.strokes.ends in
    omega (arith, p.total_is, regular_total s.symbology s.narrow s.wide c.split_at.result.0.now p.regular, first, c.draw_regular-more.ensures.strokes.ends, c.requires)

pub draw-two-requires : goal.draw-two-requires
draw-two-requires c =
    let s = c.args.self.now in
    let p = parts (goal.at.draw-two-requires c).After-split_at in
    let first = rw c.start_of.ensures at c.draw-one.ensures.strokes.ends in
    rw c.stop_of.ensures (omega (arith, p.total_is, regular_total s.symbology s.narrow s.wide c.split_at.result.0.now p.regular, first, c.draw_regular-more.ensures.strokes.ends, c.draw_next-rest.ensures.strokes.ends, c.requires))

pub returns-clause-strokes : goal.returns-clause-strokes
returns-clause-strokes c =
    let s = c.args.self.now in
    let p = parts (goal.at.returns-clause-strokes c).After-split_at in
    let g = next_widths s.symbology s.narrow s.wide in
    let size = sized s.symbology s.narrow s.wide in
    let ends = ap (λ es. size es ++ (flat_map g c.split_at.result.0.now ++ (flat_map g c.split_at.result.1.now ++ size c.stop_of.result.now))) c.start_of.ensures
    ∙ ap (λ es. size (start_of s.symbology) ++ (flat_map g c.split_at.result.0.now ++ (flat_map g c.split_at.result.1.now ++ size es))) c.stop_of.ensures in
    rw (sym (to_z-of_z w64 c.args.at c.ranges.at)) (draws_same _ _ _ _ _ _ _ _ (ends ∙ p.widths_are)
    (draws_then _ _ _ _ _ _ _ _ _ _ c.draw-one.ensures.strokes (draws_then _ _ _ _ _ _ _ _ _ _ c.draw_regular-more.ensures.strokes
    (draws_then _ _ _ _ _ _ _ _ _ _ c.draw_next-rest.ensures.strokes c.draw-two.ensures.strokes))))

pub returns-clause-pieces : goal.returns-clause-pieces
returns-clause-pieces c = grind (arith, to_z-of_z, handed_then)
