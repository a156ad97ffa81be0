use Rattle.std.proofs.Common.{arith, w64}
use Rattle.std.proofs.lemmas.Int.{to_z-of_z}
use Rattle.vp_field.proofs.pieces.BarBoxPieces.paint_pieces.Goals as goal

pub returns-clause-some : goal.returns-clause-some
returns-clause-some g c = λ d h e. omega (arith, c.from.ensures, (rw (to_z-of_z w64 c.args.at c.ranges.at) at c.paint_pieces.ensures.some) d h e)
