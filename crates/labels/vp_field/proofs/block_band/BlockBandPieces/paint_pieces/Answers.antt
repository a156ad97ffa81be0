use Rattle.std.proofs.Common.{arith, w64}
use Rattle.std.proofs.lemmas.Int.{to_z-of_z}
use Rattle.vp_dots.proofs.Paints.{painted_same}
use Rattle.vp_field.proofs.block_band.BlockBandPieces.paint_pieces.Goals as goal

pub returns-then-row-le-BYTES-clause-painted : goal.returns-then-row-le-BYTES-clause-painted
returns-then-row-le-BYTES-clause-painted g c = grind (arith, to_z-of_z, painted_same)

pub returns-clause-some : goal.returns-clause-some
returns-clause-some g c = rw (to_z-of_z w64 c.args.at c.ranges.at) at c.paint_pieces.ensures.some
