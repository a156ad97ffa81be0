use Rattle.std.proofs.Common.{arith}
use Rattle.vp_qr.proofs.FormatAcross.{across_is}
use Rattle.vp_qr.proofs.RowParts.{first_columns}
use Rattle.vp_qr.proofs.symbol.format_across.Goals as goal

pub returns : goal.returns
returns c = grind (arith, across_is, first_columns)
