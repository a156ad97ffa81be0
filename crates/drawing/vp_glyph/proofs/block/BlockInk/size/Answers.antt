use Rattle.std.proofs.Common.{◌+◌, ◌*◌, ap}
use Rattle.vp_glyph.proofs.block.BlockInk.size.Goals as goal

pub returns-clause-width : goal.returns-clause-width
returns-clause-width g c = c.max.ensures

pub returns-clause-height : goal.returns-clause-height
returns-clause-height g c = ap (λ n. c.args.self.now.h + n * c.args.self.now.pitch) c.saturating_sub.ensures
