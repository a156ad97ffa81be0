use Rattle.vp_strips.proofs.Doubling.{bit-doubled_half}
use Rattle.vp_strips.proofs.raster_row.doubled_half.Goals as goal

pub returns : goal.returns
returns c = λ k h. rw c.from.ensures (bit-doubled_half c.args.half k c.requires h)
