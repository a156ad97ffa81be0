use Rattle.vp_dots.proofs.Squares.{right_dot}
use Rattle.vp_dots.proofs.square.right_parts.Goals as goal

pub returns : goal.returns
returns c = right_dot c.args.wide c.args.left c.args.upper c.args.lower c.ranges.left.fits c.requires.parts
