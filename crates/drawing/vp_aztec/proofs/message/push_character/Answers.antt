use Rattle.std.proofs.Common.{arith}
use Rattle.vp_aztec.proofs.StepWords.{pair_in_long}
use Rattle.vp_aztec.proofs.message.push_character.Goals as goal

pub returns-in-Some-clause-within : goal.returns-in-Some-clause-within
returns-in-Some-clause-within c = grind (arith, pair_in_long)
