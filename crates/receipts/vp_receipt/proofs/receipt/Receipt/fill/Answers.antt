use Rattle.vp_receipt.specs.Printer.{printing_of}
use Rattle.std.proofs.Common.{◌≡◌, false, arith, ◌∷◌, ap, sym, ◌∙◌, subst}
use Rattle.vp_esc.specs.declared.item.EscItem.TheVariants.{RasterByte}
use Rattle.vp_receipt_settings.specs.Rasters.{is_row_end}
use Rattle.vp_receipt.specs.Standing.{Printing, Stands}
use Rattle.vp_receipt_settings.proofs.Runs.{settings_same}
use Rattle.vp_receipt.proofs.Runs.{layers_same}
use Rattle.vp_receipt.proofs.Showing.{shows_nothing}
use Rattle.vp_receipt.proofs.receipt.Receipt.fill.Goals as goal

pub invariant_of-self : goal.invariant_of-self
invariant_of-self g c = record { fit = c.after_row-self-inside.ensures.fit; raster = c.take.ensures.part; job = c.act_on_row-self-inside.ensures.job _; turned = c.act_on_row-self-inside.ensures.turned }

pub returns-then-take-clause-stands : goal.returns-then-take-clause-stands
returns-then-take-clause-stands g c =
    grind (arith, c.take.ensures.row, c.if-take.true, c.act_on_row-self-inside.ensures.others, c.after_row-self-inside.ensures.settings, c.times_down.ensures.value, c.take.ensures.gathers, c.act_on_row-self-inside.ensures.page, c.act_on_row-self-inside.ensures.shows)

pub returns-else-take-clause-stands : goal.returns-else-take-clause-stands
returns-else-take-clause-stands g c = λ setup before h.
    let was : Stands setup (printing_of c.self.inside) before = subst (λ (p : Printing). Stands setup p before) (sym c.self.view_is) h in
    let none = ap (λ (p : Printing). p.pending) c.self.view_is ∙ c.requires in
    let ends : is_row_end before ≡ false = sym (c.take.ensures.ends before was.raster) ∙ c.if-take.false in
    record {
      sheets = was.sheets;
      settings = was.settings ∙ sym (settings_same setup c.args.byte before ends);
      stops = was.stops;
      raster = c.take.ensures.gathers before was.raster;
      stored = was.stored;
      line = was.line;
      page = grind (arith, layers_same, ends, was.page);
      shows = shows_nothing setup _ _ before (RasterByte c.args.byte ∷ before) none was.shows;
      of_page = grind (arith, none);
    }
