use Rattle.vp_maxicode.proofs.Elements.{below_ten}
use Rattle.vp_maxicode.proofs.mode.Carrier.words.Goals as goal

pub returns-clause-elements : goal.returns-clause-elements
returns-clause-elements c = below_ten c.bits-n.result
