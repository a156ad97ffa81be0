use Rattle.std.proofs.Common.{arith}
use Rattle.std.proofs.Common.{unwrap_or}
use Rattle.vp_receipt.proofs.Showing.{rows_told}
use Rattle.vp_receipt.proofs.receipt.Receipt.line_rows.Goals as goal

pub returns-clause-value : goal.returns-clause-value
returns-clause-value g c = grind (arith, unwrap_or, rows_told, c.unwrap_or.ensures, c.line_rows.ensures, c.self.view_is)
