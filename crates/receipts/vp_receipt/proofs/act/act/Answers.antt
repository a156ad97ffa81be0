use Rattle.std.proofs.Common.{List, ℕ, ◌∙◌, subst, length, refl}
use Rattle.vp_receipt_settings.specs.Setup.{Setup}
use Rattle.vp_esc.specs.declared.item.EscItem.{EscItem}
use Rattle.vp_receipt_settings.specs.declared.page_mode.PrinterMode.TheVariants.{Standard}
use Rattle.vp_receipt_settings.specs.Line.{height, line}
use Rattle.vp_strips.specs.Canvases.{Canvas, canvas_of}
use Rattle.vp_strips.specs.declared.lines.Lines.{Lines}
use Rattle.vp_strips.specs.declared.job.Job.{Job}
use Rattle.vp_strips.specs.Held.{IsJob, IsShowing}
use Rattle.vp_receipt.specs.Effects.{own_by, part_by, layers_by, mode_by}
use Rattle.vp_receipt.specs.Standing.{IsSettled}
use Rattle.vp_receipt.proofs.PageLines.{mode_is}
use Rattle.vp_receipt.proofs.Effects.{line_stays, on_paper, paper_mode, prints_of_strips, part_of_strips, some_of}
use Rattle.vp_receipt.proofs.act.act.Goals as goal

pub returns-in-Standard : goal.returns-in-Standard
returns-in-Standard g c =
    let s = c.args.s.now in
    let effect = c.args.effect in
    let canvas = (canvas_of c.args.canvas.now) in
    record {
      sheets = refl;
      job = some_of c.printed.result (λ (job : Job). (canvas : Canvas) (lines : Lines) → IsJob job canvas lines) (λ (job : Job). (lines : Lines) → IsJob job canvas lines) (λ job h. h canvas) c.printed.ensures.job;
      turned = c.printed.ensures.turned;
      line = λ setup before h. line_stays setup before effect s canvas.sheets canvas.bitmap c.in_default.not-Puts h.settings h.sheets h.line;
      page = λ setup before h. on_paper (mode_by setup before effect) (layers_by setup before effect) canvas.page (paper_mode setup before effect c.in_default.not-BeginsPage (mode_is setup before s Standard h.settings c.in-Standard.is));
      text = λ setup before h. c.printed.ensures.text setup before canvas h ∙ prints_of_strips setup before effect (mode_is setup before s Standard h.settings c.in-Standard.is);
      shows = some_of c.printed.result
          (λ (job : Job). (setup : Setup) (before : List EscItem) (canvas : Canvas) → IsSettled setup before s canvas → IsShowing job canvas (height (line setup before)) (length (own_by setup effect)))
          (λ (job : Job). (setup : Setup) (before : List EscItem) → IsSettled setup before s canvas → IsShowing job canvas (height (line setup before)) (length (part_by setup before effect)))
          (λ job told setup before h. subst (λ (bytes : List ℕ). IsShowing job canvas (height (line setup before)) (length bytes))
          (part_of_strips setup before effect (mode_is setup before s Standard h.settings c.in-Standard.is)) (told setup before canvas h))
          c.printed.ensures.shows;
    }
