use Rattle.vp_page.proofs.Lanes.{exchanged_lane, length-exchanged}
use Rattle.vp_page.proofs.words.exchanged.Goals as goal

pub returns-clause-lanes : goal.returns-clause-lanes
returns-clause-lanes c i h = exchanged_lane c.args.bytes 16 c.args.s c.args.mask i c.fits-bytes.0 h

pub returns-clause-len : goal.returns-clause-len
returns-clause-len c = length-exchanged c.args.bytes 16 c.args.s c.args.mask c.fits-bytes.0
