use Rattle.std.proofs.Common.{◌≡◌, [], ◌∷◌, ap, sym, ◌∙◌, subst, arith}
use Rattle.vp_receipt_settings.specs.declared.effect.Effect.TheVariants.{Sets}
use Rattle.vp_receipt_settings.specs.declared.settings.Settings.{Settings}
use Rattle.vp_receipt_settings.specs.Effects.{effect_of}
use Rattle.vp_receipt_settings.specs.Line.{line, mode}
use Rattle.vp_receipt_settings.specs.Settings.{settings_of}
use Rattle.vp_strips.specs.Canvases.{canvas_of}
use Rattle.vp_strips.specs.Held.{job_text}
use Rattle.vp_receipt.specs.Printer.{printing_of}
use Rattle.vp_receipt.specs.Standing.{Printing, IsActing, Stands}
use Rattle.vp_receipt.proofs.Effects.{IsKind, kind_is, Does, does, page_after}
use Rattle.vp_receipt.proofs.ItemKinds.{no_image}
use Rattle.vp_receipt.proofs.Runs.{nothing_by}
use Rattle.vp_receipt.proofs.Showing.{is_done, job_done, text_done, nothing_shown, shows_done}
use Rattle.vp_receipt.proofs.receipt.Receipt.set.Goals as goal

pub invariant_of-self : goal.invariant_of-self
invariant_of-self g c =
    let r = c.self.inside in
    let none : job_text r.job (canvas_of r.canvas) ≡ [] = ap (λ (p : Printing). p.pending) c.self.view_is ∙ c.requires.pending in
    record { fit = c.after-self-inside.ensures.fit; raster = c.take.ensures.part; job = job_done r.job (canvas_of r.canvas) _ r.lines c.self.invariant.job none; turned = c.self.invariant.turned }

pub returns-clause-pending : goal.returns-clause-pending
returns-clause-pending g c = λ setup before h.
    let was : Stands setup (printing_of c.self.inside) before = subst (λ (p : Printing). Stands setup p before) (sym c.self.view_is) h in
    let r = c.self.inside in
    let item = c.args.item.now in
    let none : job_text r.job (canvas_of r.canvas) ≡ [] = ap (λ (p : Printing). p.pending) c.self.view_is ∙ c.requires.pending in
    let is : effect_of r.settings item ≡ Sets = ap (λ (p : Printing). effect_of p.settings item) c.self.view_is ∙ c.requires.effect in
    let d : Does setup before item Sets = rw (← was.settings, is) at (does setup before item (subst (IsKind item) is (kind_is r.settings item))) in
    text_done r.job _ (is_done r.job (canvas_of r.canvas) r.lines c.self.invariant.job none) c.self.invariant.turned
    ∙ sym (rw (d.rows, d.own, d.page) (nothing_by (mode setup before)))

pub returns-clause-stands : goal.returns-clause-stands
returns-clause-stands g c = λ setup before h.
    let was : Stands setup (printing_of c.self.inside) before = subst (λ (p : Printing). Stands setup p before) (sym c.self.view_is) h in
    let r = c.self.inside in
    let item = c.args.item.now in
    let place = is_done r.job (canvas_of r.canvas) r.lines c.self.invariant.job (ap (λ (p : Printing). p.pending) c.self.view_is ∙ c.requires.pending) in
    let none : job_text r.job (record (canvas_of r.canvas) { bitmap = c.settle.new.bitmap }) ≡ [] = text_done r.job _ place c.self.invariant.turned in
    let is : effect_of r.settings item ≡ Sets = ap (λ (p : Printing). effect_of p.settings item) c.self.view_is ∙ c.requires.effect in
    let acts : IsActing item = subst (IsKind item) is (kind_is r.settings item) in
    let now : Sets ≡ effect_of (settings_of setup before) item = sym is ∙ ap (λ (s : Settings). effect_of s item) was.settings in
    let d : Does setup before item Sets = subst (Does setup before item) (sym now) (does setup before item acts) in
    record {
      sheets = was.sheets;
      settings = grind (arith, no_image, c.after-self-inside.ensures.settings, c.as_slice-stops.ensures.value);
      stops = grind (arith, c.take.ensures.stops before);
      raster = c.take.ensures.gathers before;
      stored = c.take.ensures.stored before was.stored;
      line = grind (arith, c.settle.ensures (line setup before) was.line, d.line);
      page = grind (arith, page_after, does setup before item acts, now, was.page);
      shows = nothing_shown setup _ _ (item ∷ before) (λ high others. shows_done r.job _ high others place c.self.invariant.turned);
      of_page = grind (arith, none);
    }
