use Rattle.std.proofs.Common.{arith}
use Rattle.vp_format.proofs.Passed.{passes_on}
use Rattle.vp_format.proofs.passing.pass_runs.Goals as goal

pub loop-x-preserved-then-at-single : goal.loop-x-preserved-then-at-single
loop-x-preserved-then-at-single c = passes_on _ _ _ _ _ _ _ c.loop-x.invariant (c.counted-places.ensures.passed c.loop-x.x)

pub loop-x-smaller-then-at-single : goal.loop-x-smaller-then-at-single
loop-x-smaller-then-at-single c = omega (arith, (c.counted-places.ensures.passed c.loop-x.x).behind)
