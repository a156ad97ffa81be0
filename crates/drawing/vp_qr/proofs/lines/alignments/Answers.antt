use Rattle.std.proofs.lemmas.Bool.Decides.{nat_tests}
use Rattle.std.proofs.Common.{arith}
use Rattle.std.proofs.lemmas.Bool.{le-leb}
use Rattle.vp_qr.proofs.Modules.{either}
use Rattle.vp_qr.proofs.lines.alignments.Goals as goal

pub returns-then-version-lt2 : goal.returns-then-version-lt2
returns-then-version-lt2 c = grind (arith, nat_tests)

pub returns-then-version-lt7 : goal.returns-then-version-lt7
returns-then-version-lt7 c = grind (arith, nat_tests)

pub returns : goal.returns
returns c = grind (arith, either, le-leb)
