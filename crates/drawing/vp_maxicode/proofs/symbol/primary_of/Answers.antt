use Rattle.std.proofs.Common.{rules}
use Rattle.vp_maxicode.proofs.Elements.{below_head}
use Rattle.vp_maxicode.proofs.symbol.primary_of.Goals as goal

pub returns-clause-elements : goal.returns-clause-elements
returns-clause-elements c = below_head c.args.mode c.args.words.now _ (search rules) c.requires.mode c.requires.elements
