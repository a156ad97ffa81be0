use Rattle.std.proofs.Common.{arith}
use Rattle.vp_receipt.proofs.PageLines.{page_strip}
use Rattle.vp_receipt.proofs.act.page_job.Goals as goal

pub returns-clause-text : goal.returns-clause-text
returns-clause-text c = grind (arith, page_strip, c.alone.ensures.text, c.page.ensures, c.printed_rows.ensures.most, c.printed_rows.ensures.rows)
