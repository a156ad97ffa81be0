use Rattle.vp_esc.specs.declared.item.EscItem.TheVariants.{RasterByte}
use Rattle.vp_receipt.specs.Strips.{own_part}
use Rattle.vp_receipt_settings.specs.Line.{height, line}
use Rattle.std.proofs.Common.{[], ◌∷◌, ◌++◌, subst, arith, length, sym}
use Rattle.vp_receipt_settings.specs.declared.page_mode.PrinterMode.{PrinterMode}
use Rattle.vp_receipt_settings.specs.declared.page_mode.PrinterMode.TheVariants.{Page, Standard}
use Rattle.vp_receipt.specs.PageMarks.{layers}
use Rattle.vp_receipt_settings.specs.Rasters.{row_so_far}
use Rattle.vp_receipt.specs.Standing.{HasPageIf}
use Rattle.vp_receipt.proofs.RowEnds.{row_laid, row_printed}
use Rattle.vp_receipt.proofs.PageLines.{mode_is}
use Rattle.vp_receipt.proofs.act.act_on_row.Goals as goal

pub returns-in-Standard-clause-job : goal.returns-in-Standard-clause-job
returns-in-Standard-clause-job g c = c.row_job.ensures.job _

pub returns-in-Page-clause-job : goal.returns-in-Page-clause-job
returns-in-Page-clause-job g c = c.none.ensures.job _

pub returns-in-Page-clause-page : goal.returns-in-Page-clause-page
returns-in-Page-clause-page g c = λ setup before byte e row page.
    let is = mode_is setup before c.args.s.now Page e c.in-Page.is in
    row_laid setup before byte _ row.ends
    (c.lay_raster_row.ensures setup before (row_so_far before ++ byte ∷ []) (layers setup before) e row.scale row.row
    (subst (λ (m : PrinterMode). HasPageIf m (layers setup before) c.args.canvas.now.page) is page))

pub returns-in-Standard-clause-text : goal.returns-in-Standard-clause-text
returns-in-Standard-clause-text g c = grind (arith, mode_is, row_printed, c.in-Standard.is, c.row_job.ensures.text)

pub returns-in-Standard-clause-shows : goal.returns-in-Standard-clause-shows
returns-in-Standard-clause-shows g c = grind (arith, mode_is, c.in-Standard.is, c.row_job.ensures.text, c.row_job.ensures.shows)

pub returns-in-Standard-clause-page : goal.returns-in-Standard-clause-page
returns-in-Standard-clause-page g c = λ setup before byte e row page.
    subst (λ (m : PrinterMode). HasPageIf m (layers setup (RasterByte byte ∷ before)) c.args.canvas.now.page) (sym (mode_is setup before c.args.s.now Standard e c.in-Standard.is)) tt

pub returns-in-Page-clause-shows : goal.returns-in-Page-clause-shows
returns-in-Page-clause-shows g c = λ setup before byte e row. c.none.ensures.shows _ (height (line setup before)) (length (own_part setup before (RasterByte byte)))
