use Rattle.std.proofs.Common.{◌∙◌, length}
use Rattle.vp_receipt_settings.specs.Line.{height, line}
use Rattle.vp_strips.specs.Canvases.{Canvas, canvas_of}
use Rattle.vp_strips.specs.Held.{job_text, IsShowing}
use Rattle.vp_receipt.proofs.SymbolTexts.{text_shown, own_shown}
use Rattle.vp_receipt.proofs.act.symbol_on_paper.Goals as goal

pub returns-clause-text : goal.returns-clause-text
returns-clause-text g c = λ setup before item h is.
    let canvas : Canvas = record (canvas_of c.args.canvas.now) { symbol = c.args.symbol } in
    text_shown setup before item c.args.symbol (job_text c.symbol_job.result canvas) is
    (λ image i. c.symbol_job.ensures.text setup before canvas image (record { settings = h.settings; sheets = h.sheets; line = h.line; page = h.page })
    (record { width = c.requires.width ∙ rw h.sheets i.width; height = c.requires.height ∙ rw h.sheets i.height; dots = λ x y. rw h.sheets (i.dots x y) }))

pub returns-clause-shows : goal.returns-clause-shows
returns-clause-shows g c = λ setup before item h is.
    let canvas : Canvas = record (canvas_of c.args.canvas.now) { symbol = c.args.symbol } in
    own_shown setup before item c.args.symbol (λ own. IsShowing c.symbol_job.result canvas (height (line setup before)) (length own)) is
    (λ image i. c.symbol_job.ensures.shows setup before canvas image (record { settings = h.settings; sheets = h.sheets; line = h.line; page = h.page })
    (record { width = c.requires.width ∙ rw h.sheets i.width; height = c.requires.height ∙ rw h.sheets i.height; dots = λ x y. rw h.sheets (i.dots x y) }))

pub returns-clause-job : goal.returns-clause-job
returns-clause-job g c = c.symbol_job.ensures.job _
