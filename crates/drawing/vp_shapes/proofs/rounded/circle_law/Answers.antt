use Rattle.vp_shapes.proofs.Circles.{circle}
use Rattle.vp_shapes.proofs.rounded.circle_law.Goals as goal

pub returns : goal.returns
returns c = circle c.args.side c.args.thickness
