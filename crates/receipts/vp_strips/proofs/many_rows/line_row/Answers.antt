use Rattle.std.proofs.Common.{arith}
use Rattle.std.proofs.lemmas.List.{length-take}
use Rattle.vp_receipt_settings.proofs.Widths.{few_bytes}
use Rattle.vp_strips.proofs.Rows.{dot-take}
use Rattle.vp_strips.specs.Rows.{paper_row}
use Rattle.vp_strips.proofs.many_rows.line_row.Goals as goal

pub returns : goal.returns
unfolding paper_row
returns g c = grind (arith, length-take, few_bytes, dot-take)
