use Rattle.std.proofs.Common.{◌+◌, ◌/◌, refl}
use Rattle.vp_dots.proofs.Cuts.{cut_nine}
use Rattle.vp_page.proofs.along.word_inside.Goals as goal

pub returns : goal.returns
returns c = λ x h. rw c.from.ensures (cut_nine c.args.line.now c.eight_at-2.result _ c.args.from x h (c.fits-line (c.args.from / 8 + 8)) c.eight_at-2.ensures refl)
