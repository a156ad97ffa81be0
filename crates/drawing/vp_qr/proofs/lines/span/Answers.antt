use Rattle.std.proofs.Common.{ℕ}
use Rattle.vp_qr.proofs.RowParts.{span_bit, span_fits}
use Rattle.vp_qr.proofs.lines.span.Goals as goal

pub overflow_sub-result : goal.overflow_sub-result
overflow_sub-result c = span_fits c.args.from c.args.to c.requires.from c.requires.to

pub returns : goal.returns
returns c = λ (j : ℕ). span_bit c.args.from c.args.to j c.requires.from c.requires.to
