use Rattle.vp_dots.proofs.Spans.{bit_of_before}
use Rattle.vp_dots.proofs.span.bits_before.Goals as goal

pub returns : goal.returns
returns c k h = bit_of_before c.args.to k c.requires h
