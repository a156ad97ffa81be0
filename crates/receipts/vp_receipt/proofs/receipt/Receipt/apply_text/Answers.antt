use Rattle.std.proofs.Common.{◌≡◌, ◌<◌, length, [], ap, sym, ◌∙◌, subst, arith}
use Rattle.std.proofs.lemmas.Bool.Decides.{nat_tests}
use Rattle.vp_receipt_settings.specs.Line.{line}
use Rattle.vp_receipt_settings.specs.Runs.{text_after}
use Rattle.vp_strips.specs.Held.{job_text}
use Rattle.vp_receipt.specs.Printer.{printing_of}
use Rattle.vp_receipt.specs.Standing.{Printing, Stands}
use Rattle.vp_receipt.proofs.Showing.{nothing_shown, is_done, text_done, shows_done, job_done}
use Rattle.vp_receipt.proofs.Texts.{text_ends}
use Rattle.vp_strips.specs.Canvases.{canvas_of}
use Rattle.vp_receipt.proofs.receipt.Receipt.apply_text.Goals as goal

pub invariant_of-self : goal.invariant_of-self
invariant_of-self g c =
    let r = c.self.inside in
    let none : job_text r.job (canvas_of r.canvas) ≡ [] = ap (λ (p : Printing). p.pending) c.self.view_is ∙ c.requires.pending in
    record { fit = c.put_text.ensures.fit; raster = c.end.ensures.part; job = job_done r.job (canvas_of r.canvas) _ r.lines c.self.invariant.job none; turned = c.self.invariant.turned }

pub returns-clause-pending : goal.returns-clause-pending
returns-clause-pending g c =
    let r = c.self.inside in
    text_done r.job _ (is_done r.job (canvas_of r.canvas) r.lines c.self.invariant.job (ap (λ (p : Printing). p.pending) c.self.view_is ∙ c.requires.pending)) c.self.invariant.turned

pub returns-clause-stands : goal.returns-clause-stands
returns-clause-stands g c = λ setup before h.
    let was : Stands setup (printing_of c.self.inside) before = subst (λ (p : Printing). Stands setup p before) (sym c.self.view_is) h in
    let text = c.args.text.now in
    let some : 0 < length text = grind (arith, nat_tests, c.is_empty.ensures, c.if-is_empty.false) in
    let r = c.self.inside in
    let alone = c.put_text.ensures.others setup before was.settings in
    let place = is_done r.job (canvas_of r.canvas) r.lines c.self.invariant.job (ap (λ (p : Printing). p.pending) c.self.view_is ∙ c.requires.pending) in
    let none : job_text r.job (record (canvas_of r.canvas) { bitmap = c.put_text.new.bitmap }) ≡ [] = text_done r.job _ place c.self.invariant.turned in
    record {
      sheets = was.sheets;
      settings = c.put_text.ensures.settings setup before was.settings;
      stops = was.stops ∙ sym alone.stops;
      raster = text_ends c.end.new.self text before c.requires.text some c.end.ensures.gathers;
      stored = grind (arith, alone.stored, was.stored);
      line = c.put_text.ensures.line setup before was.settings was.sheets (c.settle.ensures (line setup before) was.line);
      page = grind (arith, alone.layers, alone.mode, was.page);
      shows = nothing_shown setup _ _ (text_after text before) (λ high others. shows_done r.job _ high others place c.self.invariant.turned);
      of_page = grind (arith, none);
    }
