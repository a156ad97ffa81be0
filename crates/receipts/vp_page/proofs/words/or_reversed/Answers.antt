use Rattle.std.proofs.lemmas.Bool.Decides.{nat_tests}
use Rattle.std.proofs.Common.{arith}
use Rattle.vp_page.proofs.words.or_reversed.Goals as goal

pub loop-k-init : goal.loop-k-init
loop-k-init c = grind (arith, nat_tests)

pub loop-k-preserved : goal.loop-k-preserved
loop-k-preserved c = grind (arith, nat_tests)

pub returns-then-bytes-ne0 : goal.returns-then-bytes-ne0
returns-then-bytes-ne0 c = grind arith

pub returns-else-bytes-ne0 : goal.returns-else-bytes-ne0
returns-else-bytes-ne0 c = grind (arith, nat_tests)
