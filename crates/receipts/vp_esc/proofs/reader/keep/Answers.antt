use Rattle.std.proofs.Common.{arith}
use Rattle.std.proofs.lemmas.Bool.Decides.{nat_tests}
use Rattle.vp_esc.proofs.Phases.{keep_full, keep_room}
use Rattle.vp_esc.proofs.reader.keep.Goals as goal

pub returns-then-is_full : goal.returns-then-is_full
returns-then-is_full c = grind (arith, nat_tests, c.is_full.ensures.value, c.if-is_full.true, keep_full)

pub returns : goal.returns
returns c = grind (arith, nat_tests, c.is_full.ensures, c.if-is_full.false, keep_room, c.push.ensures.items)
