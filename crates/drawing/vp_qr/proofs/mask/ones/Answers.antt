use Rattle.vp_qr.proofs.Counting.{ones_masked, ones_most}
use Rattle.vp_qr.proofs.mask.ones.Goals as goal

pub returns-clause-value : goal.returns-clause-value
returns-clause-value c = ones_masked c.args.row c.args.n c.requires

pub returns-clause-most : goal.returns-clause-most
returns-clause-most c = ones_most c.args.row c.args.n c.requires
