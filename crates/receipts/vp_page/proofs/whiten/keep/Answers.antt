use Rattle.std.proofs.lemmas.Bool.Decides.{nat_tests}
use Rattle.std.proofs.Common.{arith}
use Rattle.vp_page.proofs.whiten.keep.Goals as goal

pub loop-k-init : goal.loop-k-init
loop-k-init g c = grind (arith, nat_tests)

pub loop-k-preserved : goal.loop-k-preserved
loop-k-preserved g c = grind (arith, nat_tests)
