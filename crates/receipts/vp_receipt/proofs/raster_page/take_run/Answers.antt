use Rattle.vp_receipt.proofs.PageRows.{rest_on_page}
use Rattle.vp_receipt.proofs.raster_page.take_run.Goals as goal

pub returns-clause-on_page : goal.returns-clause-on_page
returns-clause-on_page g c = λ setup before h.
    rest_on_page setup before c.take_rows.new.s c.take_rows.new.raster c.args.bytes.now c.end_begun-begun.result c.take_rows.new.page
    (c.take_rows.ensures.on_page setup _ (c.end_begun-begun.ensures.on_page setup before h))
