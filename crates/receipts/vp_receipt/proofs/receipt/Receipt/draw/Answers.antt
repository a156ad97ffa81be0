use Rattle.std.proofs.Common.{sym, ◌∙◌, subst, Some, arith}
use Rattle.vp_receipt_settings.specs.Symbols.{symbol_image}
use Rattle.vp_receipt_settings.specs.Line.{line}
use Rattle.vp_strips.specs.SymbolInks.{IsSymbolOf}
use Rattle.vp_receipt.specs.Printer.{printing_of}
use Rattle.vp_receipt.specs.Standing.{Printing, Stands, IsSettled}
use Rattle.vp_receipt.proofs.ItemKinds.{no_page, rows_drawn}
use Rattle.vp_receipt.proofs.PageSymbols.{line_ended, gathers_none}
use Rattle.vp_strips.specs.Canvases.{canvas_of}
use Rattle.vp_receipt.proofs.receipt.Receipt.draw.Goals as goal

pub invariant_of-self : goal.invariant_of-self
invariant_of-self g c = record { fit = c.after-self-inside.ensures.fit; raster = c.take.ensures.part; job = c.draw-self-inside.ensures.job _; turned = c.draw-self-inside.ensures.turned }

pub returns-clause-stands : goal.returns-clause-stands
returns-clause-stands g c = λ setup before h.
    let was : Stands setup (printing_of c.self.inside) before = subst (λ (p : Printing). Stands setup p before) (sym c.self.view_is) h in
    let item = c.args.item.now in
    let symbol = c.in_ok-symbol.symbol in
    let drawn : IsSymbolOf setup.sheets (Some symbol) (symbol_image setup before item) = c.in_ok-symbol.ensures.image setup before (record { settings = was.settings; sheets = was.sheets; stored = was.stored }) in
    let settled : IsSettled setup before c.self.inside.settings (record (canvas_of c.self.inside.canvas) { bitmap = c.settle.new.bitmap }) = record { settings = was.settings; sheets = was.sheets; line = c.settle.ensures (line setup before) was.line; page = was.page } in
    record {
      sheets = c.draw-self-inside.ensures.sheets ∙ was.sheets;
      settings = grind (arith, c.after-self-inside.ensures.settings, c.as_slice-stops.ensures.value, c.size-wide.ensures.height, rows_drawn, drawn);
      stops = grind (arith, c.take.ensures.stops before);
      raster = c.take.ensures.gathers before;
      stored = c.take.ensures.stored before was.stored;
      line = grind (arith, gathers_none, line_ended, drawn);
      page = c.draw-self-inside.ensures.page setup before item settled drawn;
      shows = c.draw-self-inside.ensures.shows setup before item settled drawn;
      of_page = λ some. no_page setup before item c.requires.symbol;
    }
