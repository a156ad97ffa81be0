use Rattle.vp_dots.proofs.Squares.{left_dot}
use Rattle.vp_dots.proofs.square.left_parts.Goals as goal

pub returns : goal.returns
returns c = left_dot c.args.wide c.args.left c.args.upper c.args.lower c.ranges.left.fits c.requires.parts
