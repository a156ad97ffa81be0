use Rattle.std.proofs.Common.{arith, refl}
use Rattle.vp_inflate.specs.declared.piece.TheConstants.{LENGTH_BITS, DISTANCE_BITS}
use Rattle.vp_inflate.proofs.TableWords.{all_within}
use Rattle.vp_inflate.proofs.piece.copy.Goals as goal

pub number-requires : goal.number-requires
number-requires c = omega (arith, all_within 16 LENGTH_BITS refl c.args.k, c.from.ensures)

pub number-requires-2 : goal.number-requires-2
number-requires-2 c = omega (arith, all_within 16 DISTANCE_BITS refl c.from-symbol.result, c.from-4.ensures)
