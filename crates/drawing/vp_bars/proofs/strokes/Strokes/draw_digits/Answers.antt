use Rattle.std.proofs.Common.{◌≡◌, ◌+◌, ◌*◌, ap, sym, ◌∙◌, arith, w64}
use Rattle.std.specs.List.{flat_map}
use Rattle.std.proofs.lemmas.Int.{to_z-of_z}
use Rattle.vp_bars.specs.Elements.{left_elements, ean13_elements}
use Rattle.vp_bars.specs.Symbologies.{size_of}
use Rattle.vp_bars.specs.Widths.{sized, next_widths, total}
use Rattle.vp_bars.proofs.Draws.{draws_same, draws_then}
use Rattle.vp_bars.proofs.Halves.{all_widths, halves, total-all}
use Rattle.vp_bars.proofs.Pieces.{handed_then}
use Rattle.vp_bars.proofs.strokes.Strokes.draw_digits.Goals as goal
use Rattle.vp_bars.proofs.strokes.Strokes.draw_digits.Goals.{After-parity}

-- the symbol by its parts
whole : (c : After-parity) → let s = c.args.self.now in
    all_widths s.symbology s.narrow s.wide (sized s.symbology s.narrow s.wide (left_elements c.parity.result.now c.split_at.result.0.now)) (flat_map (next_widths s.symbology s.narrow s.wide) c.split_at.result.1.now)
    ≡ sized s.symbology s.narrow s.wide (ean13_elements s.values.now)
whole c = grind (arith, halves)

-- how wide they are together
sum : (c : After-parity) → let s = c.args.self.now in
    total (sized s.symbology s.narrow s.wide (ean13_elements s.values.now)) ≡ 8 * size_of s.symbology s.narrow s.wide 1
    + total (sized s.symbology s.narrow s.wide (left_elements c.parity.result.now c.split_at.result.0.now)) + total (flat_map (next_widths s.symbology s.narrow s.wide) c.split_at.result.1.now)
    + 3 * size_of s.symbology s.narrow s.wide 1
sum c = let s = c.args.self.now in ap total (sym (whole c)) ∙ total-all s.symbology s.narrow s.wide _ _

pub draw_left-lefts-requires : goal.draw_left-lefts-requires
draw_left-lefts-requires c = omega (arith, sum (goal.at.draw_left-lefts-requires c).After-parity, c.requires.room, c.draw-one.ensures.strokes.ends)

pub draw-two-requires : goal.draw-two-requires
draw-two-requires c =
    omega (arith, sum (goal.at.draw-two-requires c).After-parity, c.requires.room, c.draw-one.ensures.strokes.ends, c.draw_left-lefts.ensures.strokes.ends)

pub draw_next-rights-requires : goal.draw_next-rights-requires
draw_next-rights-requires c =
    omega (arith, sum (goal.at.draw_next-rights-requires c).After-parity, c.requires.room, c.draw-one.ensures.strokes.ends, c.draw_left-lefts.ensures.strokes.ends, c.draw-two.ensures.strokes.ends)

pub draw-three-requires : goal.draw-three-requires
draw-three-requires c =
    omega (arith, sum (goal.at.draw-three-requires c).After-parity, c.requires.room, c.draw-one.ensures.strokes.ends, c.draw_left-lefts.ensures.strokes.ends, c.draw-two.ensures.strokes.ends, c.draw_next-rights.ensures.strokes.ends)

pub returns-clause-strokes : goal.returns-clause-strokes
returns-clause-strokes c =
    rw (sym (to_z-of_z w64 c.args.at c.ranges.at)) (draws_same _ _ _ _ _ _ _ _ (whole (goal.at.returns-clause-strokes c).After-parity) (
    draws_then _ _ _ _ _ _ _ _ _ _ c.draw-one.ensures.strokes (
    draws_then _ _ _ _ _ _ _ _ _ _ c.draw_left-lefts.ensures.strokes (
    draws_then _ _ _ _ _ _ _ _ _ _ c.draw-two.ensures.strokes (
    draws_then _ _ _ _ _ _ _ _ _ _ c.draw_next-rights.ensures.strokes c.draw-three.ensures.strokes)))))

pub returns-clause-pieces : goal.returns-clause-pieces
returns-clause-pieces c = grind (arith, to_z-of_z, handed_then)
