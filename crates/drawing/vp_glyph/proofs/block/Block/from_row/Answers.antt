use Rattle.std.proofs.Common.{arith}
use Rattle.vp_glyph.proofs.Handed.{lines_fit}
use Rattle.vp_glyph.proofs.block.Block.from_row.Goals as goal

pub returns-clause-walked : goal.returns-clause-walked
returns-clause-walked g c = omega (arith, c.passed_at-passed.ensures.walked, c.args.self.less, lines_fit c.args.self.text.now)
