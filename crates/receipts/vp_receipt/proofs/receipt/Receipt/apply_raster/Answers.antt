use Rattle.std.proofs.Common.{sym, subst, arith}
use Rattle.vp_receipt.specs.Printer.{printing_of}
use Rattle.vp_receipt.specs.Standing.{Printing, Stands}
use Rattle.vp_receipt_settings.specs.declared.page_mode.PrinterMode.TheVariants.{Page}
use Rattle.vp_receipt_settings.proofs.Runs.{run_inside, settings_stay, line_stays, stops_stay, data_stay}
use Rattle.vp_receipt.proofs.PageLines.{mode_is, has_page}
use Rattle.vp_receipt.proofs.PageRows.{nothing_printed, gathers_still}
use Rattle.vp_receipt.proofs.Runs.{page_stays, paper_stays}
use Rattle.vp_receipt.proofs.Showing.{shows_nothing, nothing_shown}
use Rattle.vp_strips.specs.Canvases.{canvas_of}
use Rattle.vp_receipt.proofs.receipt.Receipt.apply_raster.Goals as goal

pub invariant_of-self-in-Page : goal.invariant_of-self-in-Page
invariant_of-self-in-Page g c = record { fit = c.take_run.ensures.fit; raster = c.take_run.ensures.part; job = c.none-self-inside.ensures.job _ _; turned = c.none-self-inside.ensures.turned }

pub returns-in-Standard-clause-prints : goal.returns-in-Standard-clause-prints
returns-in-Standard-clause-prints g c = λ setup before h. paper_stays setup c.args.self.now.raster c.args.bytes.now before (grind arith) h.raster

pub returns-in-Standard-clause-stands : goal.returns-in-Standard-clause-stands
returns-in-Standard-clause-stands g c =
    grind (arith, run_inside, c.in-Standard.is, c.requires.few, settings_stay, stops_stay, c.take_all.ensures.gathers, data_stay, line_stays, page_stays, shows_nothing, c.requires.pending)

pub returns-in-Page-clause-prints : goal.returns-in-Page-clause-prints
returns-in-Page-clause-prints g c = grind (arith, nothing_printed, mode_is, c.in-Page.is)

pub returns-in-Page-clause-stands : goal.returns-in-Page-clause-stands
returns-in-Page-clause-stands g c = λ setup before h.
    let was : Stands setup (printing_of c.self.inside) before = subst (λ (p : Printing). Stands setup p before) (sym c.self.view_is) h in
    let r = c.self.inside in
    let is = mode_is setup before r.settings Page was.settings c.in-Page.is in
    let now = c.take_run.ensures.on_page setup before (record { settings = was.settings; raster = was.raster; page = grind (arith, is, was.page) }) in
    record {
      sheets = was.sheets;
      settings = now.settings;
      stops = grind (arith, stops_stay, was.stops);
      raster = now.raster;
      stored = grind (arith, data_stay, was.stored);
      line = gathers_still setup c.args.bytes.now before r.canvas.sheets r.settings c.take_run.new.s r.canvas.bitmap r.waiting was.settings now.settings was.line;
      page = grind (arith, has_page, now.page);
      shows = grind (arith, nothing_shown, c.none-self-inside.ensures.shows);
      of_page = grind (arith, c.none-self-inside.ensures.text (record (canvas_of r.canvas) { page = c.take_run.new.page }));
    }
