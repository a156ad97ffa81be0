use Rattle.std.proofs.Common.{◌∙◌, ℕ}
use Rattle.vp_qr.proofs.RowParts.{near_span}
use Rattle.vp_qr.proofs.lines.near_line.Goals as goal

pub returns : goal.returns
returns c = λ (j : ℕ). c.span.ensures j ∙ near_span c.args.centre j c.requires.low
