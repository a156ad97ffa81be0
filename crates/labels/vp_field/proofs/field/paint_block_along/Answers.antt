use Rattle.vp_field.proofs.field.paint_block_along.Goals as goal

pub returns-clause-dots : goal.returns-clause-dots
returns-clause-dots g c = c.paint_standing.ensures.dots

pub returns-clause-counted : goal.returns-clause-counted
returns-clause-counted g c = c.paint_standing.ensures.counted
