use Rattle.std.proofs.Common.{[], refl}
use Rattle.vp_engine.proofs.Steps.{stands_first}
use Rattle.vp_engine.proofs.printer.Printer.over.Goals as goal

pub invariant_of-result : goal.invariant_of-result
invariant_of-result g c = (c.requires.0, [], [], stands_first c.requires.0 _ (c.items_grow.ensures c.requires.0) c.requires.1 refl c.requires.2)

pub returns : goal.returns
returns g c = λ setup stands. stands_first setup _ (c.items_grow.ensures setup) stands refl c.requires.2
