use Rattle.vp_dots.proofs.Spans.{bit_of_from}
use Rattle.vp_dots.proofs.span.bits_from.Goals as goal

pub returns : goal.returns
returns c k h = bit_of_from c.args.from k c.requires h
