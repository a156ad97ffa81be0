use Rattle.vp_qr.proofs.FreePlaces.{free_count}
use Rattle.vp_qr.proofs.walk.free_modules_hold_the_codewords.Goals as goal

pub returns : goal.returns
returns c = free_count c.args.version c.requires.low c.requires.high
