use Rattle.std.proofs.Common.{arith}
use Rattle.vp_qr.proofs.Lengths.{longer_than_bytes}
use Rattle.vp_qr.proofs.segment.message.Goals as goal

pub overflow_cast-src : goal.overflow_cast-src
overflow_cast-src c = omega (arith, longer_than_bytes c.args.kind c.args.version c.args.src.now)
