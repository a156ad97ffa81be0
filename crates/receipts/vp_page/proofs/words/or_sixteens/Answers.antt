use Rattle.std.proofs.Common.{arith}
use Rattle.std.proofs.lemmas.Bool.Decides.{nat_tests}
use Rattle.vp_page.proofs.words.or_sixteens.Goals as goal

pub loop-k-init : goal.loop-k-init
loop-k-init c = grind (arith, nat_tests)

pub loop-k-preserved : goal.loop-k-preserved
loop-k-preserved c = grind (arith, nat_tests)
