use Rattle.vp_escapes.proofs.Tokens.{length_unescaped}
use Rattle.vp_escapes.proofs.front.unescaped.Goals as goal

pub returns-in-Some-clause-no_longer : goal.returns-in-Some-clause-no_longer
returns-in-Some-clause-no_longer c = length_unescaped c.args.sign c.args.src.now

pub returns-in-None-clause-no_longer : goal.returns-in-None-clause-no_longer
returns-in-None-clause-no_longer c = length_unescaped c.args.sign c.args.src.now
