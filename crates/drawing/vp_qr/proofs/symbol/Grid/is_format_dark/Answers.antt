use Rattle.std.proofs.Common.{arith}
use Rattle.vp_qr.specs.Walk.{dark}
use Rattle.vp_qr.proofs.FreeModules.{format_corner}
use Rattle.vp_qr.proofs.symbol.Grid.is_format_dark.Goals as goal

pub format_bit-requires-clause-corner : goal.format_bit-requires-clause-corner
unfolding dark
format_bit-requires-clause-corner c = grind (arith, format_corner c.args.self.now.version c.args.row 8)
