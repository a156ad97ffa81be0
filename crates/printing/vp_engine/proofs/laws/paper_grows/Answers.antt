use Rattle.vp_engine.specs.Setups.{rules_of}
use Rattle.vp_engine.proofs.Faults.{bytes_grow}
use Rattle.vp_engine.proofs.laws.paper_grows.Goals as goal

pub returns : goal.returns
returns c setup bytes more = bytes_grow (rules_of setup) (c.items_grow.ensures setup) bytes more
