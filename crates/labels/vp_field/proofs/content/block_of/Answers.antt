use Rattle.vp_field.proofs.content.block_of.Goals as goal

pub returns-clause-alignment : goal.returns-clause-alignment
returns-clause-alignment g c = c.block.ensures.alignment
