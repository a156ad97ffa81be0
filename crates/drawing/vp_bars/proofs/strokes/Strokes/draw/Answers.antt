use Rattle.std.proofs.Common.{arith}
use Rattle.vp_bars.proofs.Draws.{draws_none, draws_same}
use Rattle.vp_bars.proofs.WordBars.{empty_of}
use Rattle.vp_bars.proofs.Pieces.{handed_none}
use Rattle.vp_bars.proofs.strokes.Strokes.draw.Goals as goal

pub returns-then-is_empty-clause-strokes : goal.returns-then-is_empty-clause-strokes
returns-then-is_empty-clause-strokes c = grind (arith, draws_same, empty_of, draws_none)

pub returns-then-is_empty-clause-pieces : goal.returns-then-is_empty-clause-pieces
returns-then-is_empty-clause-pieces c = handed_none _ _ c.args.pen.x
