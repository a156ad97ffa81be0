use Rattle.std.proofs.Common.{arith}
use Rattle.vp_pdf417.specs.Text.{place_in}
use Rattle.vp_pdf417.proofs.FirstFrom.{first_more, first_none}
use Rattle.vp_pdf417.proofs.submode.place_in.Goals as goal

pub loop-k-preserved : goal.loop-k-preserved
loop-k-preserved c = grind (arith, first_more)

pub returns-then-characters-k-clause-place : goal.returns-then-characters-k-clause-place
unfolding place_in
returns-then-characters-k-clause-place c = grind (arith, first_more)

pub returns-clause-place : goal.returns-clause-place
unfolding place_in
returns-clause-place c = grind (arith, first_none)
