use Rattle.vp_glyph.proofs.Moved.{gone_right, moved_right}
use Rattle.vp_glyph.proofs.stretch.moved_right.Goals as goal

pub returns-then-far-ge64 : goal.returns-then-far-ge64
returns-then-far-ge64 c x h = gone_right c.args.word c.args.far x h c.if-far-ge64.true

pub returns : goal.returns
returns c x h = moved_right c.args.word c.args.far x h c.ranges.word.fits
