use Rattle.std.proofs.Common.{refl, arith}
use Rattle.vp_format.proofs.Passed.{plain_on, passes_on}
use Rattle.vp_format.proofs.passing.pass_wide.Goals as goal

pub loop-x-preserved : goal.loop-x-preserved
loop-x-preserved c = passes_on _ _ _ _ _ _ _ c.loop-x.invariant (plain_on c.args.bytes.now c.loop-x.x c.loop-x.at 64 (omega arith) (c.if-are_digits.ensures refl))
