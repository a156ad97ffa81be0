use Rattle.std.proofs.Common.{w64}
use Rattle.std.proofs.lemmas.Int.{to_z-of_z}
use Rattle.vp_field.proofs.lines.BlockRowsPieces.paint_pieces.Goals as goal

pub returns-clause-some : goal.returns-clause-some
returns-clause-some g c = rw (to_z-of_z w64 c.args.at c.ranges.at) at c.paint_pieces.ensures.some
