use Rattle.vp_dots.proofs.Squares.{turned_dots, halves_parts, quarters_parts, bytes_parts, fours_parts, pairs_parts, ones_parts}
use Rattle.vp_dots.proofs.square.turned_square.Goals as goal

pub step-halves-requires-clause-parts : goal.step-halves-requires-clause-parts
step-halves-requires-clause-parts c = halves_parts

pub step-quarters-requires-clause-parts : goal.step-quarters-requires-clause-parts
step-quarters-requires-clause-parts c = quarters_parts

pub step-bytes-requires-clause-parts : goal.step-bytes-requires-clause-parts
step-bytes-requires-clause-parts c = bytes_parts

pub step-fours-requires-clause-parts : goal.step-fours-requires-clause-parts
step-fours-requires-clause-parts c = fours_parts

pub step-pairs-requires-clause-parts : goal.step-pairs-requires-clause-parts
step-pairs-requires-clause-parts c = pairs_parts

pub step-requires-clause-parts : goal.step-requires-clause-parts
step-requires-clause-parts c = ones_parts

pub returns : goal.returns
returns c = turned_dots c.args.rows.now c.step-halves.result c.step-quarters.result c.step-bytes.result c.step-fours.result c.step-pairs.result c.step.result
    (record { dots_are = c.step-halves.ensures }) (record { dots_are = c.step-quarters.ensures }) (record { dots_are = c.step-bytes.ensures })
    (record { dots_are = c.step-fours.ensures }) (record { dots_are = c.step-pairs.ensures }) (record { dots_are = c.step.ensures })
