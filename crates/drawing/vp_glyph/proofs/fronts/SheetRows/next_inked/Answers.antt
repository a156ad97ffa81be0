use Rattle.std.proofs.Common.{arith}
use Rattle.vp_glyph.proofs.fronts.SheetRows.next_inked.Goals as goal

pub returns-clause-white : goal.returns-clause-white
returns-clause-white c = grind arith
