use Rattle.std.proofs.Common.{arith}
use Rattle.vp_qr.proofs.Interleaving.{block_fits}
use Rattle.vp_qr.proofs.level.Blocks.start.Goals as goal

pub overflow_mul-result : goal.overflow_mul-result
overflow_mul-result c = omega (arith, block_fits c.args.self c.args.block c.requires.block)

pub overflow_add-result : goal.overflow_add-result
overflow_add-result c = omega (arith, block_fits c.args.self c.args.block c.requires.block, c.saturating_sub.ensures)
