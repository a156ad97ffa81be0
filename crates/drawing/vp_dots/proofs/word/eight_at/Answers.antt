use Rattle.std.proofs.Common.{◌∙◌}
use Rattle.vp_dots.proofs.Cuts.{dot_chunk}
use Rattle.vp_dots.proofs.word.eight_at.Goals as goal

pub returns : goal.returns
returns c x h = c.word_of.ensures x ∙ dot_chunk c.args.i x c.args.row.now h
