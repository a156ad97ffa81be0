use Rattle.std.proofs.Common.{arith}
use Rattle.vp_format.proofs.Quick.{one_most}
use Rattle.vp_format.proofs.Runs.{counted_passed}
use Rattle.vp_format.proofs.counted.counted.Goals as goal

pub returns-clause-passed : goal.returns-clause-passed
returns-clause-passed c x = grind (arith, one_most, counted_passed)
