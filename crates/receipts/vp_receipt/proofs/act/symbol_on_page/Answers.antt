use Rattle.std.proofs.Common.{arith}
use Rattle.vp_receipt.proofs.act.symbol_on_page.Goals as goal

pub returns-clause-page : goal.returns-clause-page
returns-clause-page g c = grind (arith, c.lay_open.ensures.others, c.symbol_top.ensures, c.lay.ensures, c.lay_open.ensures.page)
