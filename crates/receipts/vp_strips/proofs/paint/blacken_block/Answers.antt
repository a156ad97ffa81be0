use Rattle.vp_strips.proofs.Blackening.{black_block}
use Rattle.vp_strips.proofs.paint.blacken_block.Goals as goal

pub returns : goal.returns
returns g c = black_block g.row.M c.args.i c.args.row.now c.requires.room
