use Rattle.vp_zpl.proofs.Texts.{step, out, at_the_end}
use Rattle.vp_zpl.specs.Spelling.{undecided}
use Rattle.vp_zpl.proofs.laws.hex_data.Goals as goal

pub returns-clause-grows : goal.returns-clause-grows
returns-clause-grows c x bytes b = (out x (undecided x bytes) b, (step x bytes b).makes)

pub returns-clause-ends : goal.returns-clause-ends
returns-clause-ends c x bytes = at_the_end x bytes
