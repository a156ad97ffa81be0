use Rattle.std.proofs.Common.{◌≡◌, [], ◌∷◌, unwrap_or, length, ap, sym, ◌∙◌, subst, arith}
use Rattle.vp_receipt_settings.specs.declared.effect.Effect.{Effect}
use Rattle.vp_receipt_settings.specs.declared.settings.Settings.{Settings}
use Rattle.vp_receipt_settings.specs.Symbols.{image_rows}
use Rattle.vp_receipt_settings.specs.Effects.{effect_of}
use Rattle.vp_receipt_settings.specs.Line.{line, height}
use Rattle.vp_receipt_settings.specs.Settings.{settings_of}
use Rattle.vp_strips.specs.declared.job.Job.{Job}
use Rattle.vp_strips.specs.Held.{job_text, IsShowing}
use Rattle.vp_receipt.specs.Strips.{own_part}
use Rattle.vp_receipt.specs.Printer.{printing_of}
use Rattle.vp_receipt.specs.Standing.{Printing, Stands, IsSettled}
use Rattle.vp_receipt.proofs.Effects.{Does, does, prints_done, part_done, gathers_after, page_after}
use Rattle.vp_receipt.proofs.ItemKinds.{no_image}
use Rattle.vp_receipt.proofs.Showing.{job_replaced, turned_replaced, text_replaced, shows_replaced}
use Rattle.vp_strips.specs.Canvases.{canvas_of}
use Rattle.vp_receipt.proofs.receipt.Receipt.act.Goals as goal

pub invariant_of-self : goal.invariant_of-self
invariant_of-self g c =
    let r = c.self.inside in
    let none : job_text r.job (canvas_of r.canvas) ≡ [] = ap (λ (p : Printing). p.pending) c.self.view_is ∙ c.requires.pending in
    record {
      fit = c.after-self-inside.ensures.fit;
      raster = c.take.ensures.part;
      job = rw c.replace.ensures (job_replaced c.act-job.result r.job (canvas_of r.canvas) (canvas_of c.act-job.new.canvas) r.lines c.act-job.ensures.job c.self.invariant.job none);
      turned = rw c.replace.ensures (turned_replaced c.act-job.result r.job c.act-job.ensures.turned c.self.invariant.turned);
    }

pub returns-clause-pending : goal.returns-clause-pending
returns-clause-pending g c = λ setup before h.
    let was : Stands setup (printing_of c.self.inside) before = subst (λ (p : Printing). Stands setup p before) (sym c.self.view_is) h in
    let r = c.self.inside in
    let none : job_text r.job (canvas_of r.canvas) ≡ [] = ap (λ (p : Printing). p.pending) c.self.view_is ∙ c.requires.pending in
    let settled : IsSettled setup before r.settings (record (canvas_of r.canvas) { bitmap = c.settle.new.bitmap }) = record { settings = was.settings; sheets = was.sheets; line = c.settle.ensures (line setup before) was.line; page = was.page } in
    let is : c.args.effect ≡ effect_of (settings_of setup before) c.args.item.now = c.requires.effect ∙ ap (λ (p : Printing). effect_of p.settings c.args.item.now) (sym c.self.view_is) ∙ ap (λ (s : Settings). effect_of s c.args.item.now) was.settings in
    let d : Does setup before c.args.item.now c.args.effect = subst (λ (e : Effect). Does setup before c.args.item.now e) (sym is) (does setup before c.args.item.now c.requires.acts) in
    ap (λ (j : Job). job_text j (canvas_of c.act-job.new.canvas)) c.replace.ensures
    ∙ text_replaced c.act-job.result r.job (canvas_of r.canvas) (canvas_of c.act-job.new.canvas) r.lines c.self.invariant.job c.self.invariant.turned none
    ∙ c.act-job.ensures.text setup before settled ∙ prints_done setup before c.args.item.now c.args.effect d

pub returns-clause-stands : goal.returns-clause-stands
returns-clause-stands g c = λ setup before h.
    let was : Stands setup (printing_of c.self.inside) before = subst (λ (p : Printing). Stands setup p before) (sym c.self.view_is) h in
    let r = c.self.inside in
    let item = c.args.item.now in
    let effect = c.args.effect in
    let canvas = canvas_of c.act-job.new.canvas in
    let none : job_text r.job (canvas_of r.canvas) ≡ [] = ap (λ (p : Printing). p.pending) c.self.view_is ∙ c.requires.pending in
    let settled : IsSettled setup before r.settings (record (canvas_of r.canvas) { bitmap = c.settle.new.bitmap }) = record { settings = was.settings; sheets = was.sheets; line = c.settle.ensures (line setup before) was.line; page = was.page } in
    let is : effect ≡ effect_of (settings_of setup before) item = c.requires.effect ∙ ap (λ (p : Printing). effect_of p.settings c.args.item.now) (sym c.self.view_is) ∙ ap (λ (s : Settings). effect_of s c.args.item.now) was.settings in
    let d : Does setup before item effect = subst (λ (e : Effect). Does setup before item e) (sym is) (does setup before item c.requires.acts) in
    let now : c.after-self-inside.result ≡ settings_of setup (item ∷ before) = c.after-self-inside.ensures.settings setup before was.settings (c.as_slice-stops.ensures.value ∙ was.stops)
    (sym (ap image_rows (no_image setup before item c.requires.acts.symbol))) in
    let shown : IsShowing (unwrap_or c.act-job.result r.job) canvas (height (line setup before)) (length (own_part setup before item)) =
    shows_replaced c.act-job.result r.job (canvas_of r.canvas) canvas r.lines (height (line setup before)) (length (own_part setup before item))
    (grind (arith, part_done setup before item effect d, c.act-job.ensures.shows, settled)) c.self.invariant.job c.self.invariant.turned none in
    record {
      sheets = c.act-job.ensures.sheets ∙ was.sheets;
      settings = now;
      stops = grind (arith, c.take.ensures.stops before);
      raster = c.take.ensures.gathers before;
      stored = c.take.ensures.stored before was.stored;
      line = grind (arith, gathers_after, d.text, d.line, c.act-job.ensures.line setup before settled, was.settings, now, c.act-job.ensures.sheets, c.waiting-self-inside.ensures);
      page = grind (arith, page_after, is, does setup before item c.requires.acts, c.act-job.ensures.page setup before settled);
      shows = grind (arith, c.replace.ensures, shown);
      of_page = grind (arith, c.prints_page-self-inside.ensures, was.settings, d.is_page);
    }
