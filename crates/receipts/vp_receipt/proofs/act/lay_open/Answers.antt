use Rattle.std.proofs.Common.{◌∷◌, arith}
use Rattle.vp_page.specs.Layers.{CountedAnew}
use Rattle.vp_receipt_settings.specs.Line.{line}
use Rattle.vp_receipt.specs.PageMarks.{layers, line_dot}
use Rattle.vp_receipt.proofs.PageLines.{line_laid, page_held}
use Rattle.vp_receipt.proofs.act.lay_open.Goals as goal

pub returns-then-s-clause-page : goal.returns-then-s-clause-page
returns-then-s-clause-page g c = λ setup before h.
    let page = c.count_anew.ensures (layers setup before) (page_held setup before c.args.s.now _ h c.requires.mode) in
    line_laid setup before c.args.s.now c.args.canvas.now.bitmap c.lay_line.new.page (CountedAnew ∷ layers setup before) h.settings c.requires.fit.height c.if-s.true h.line
    (λ rows. c.lay_line.ensures.laid (line_dot (line setup before)) (CountedAnew ∷ layers setup before) rows page)

pub returns-else-s-clause-page : goal.returns-else-s-clause-page
returns-else-s-clause-page g c = grind (arith, page_held, c.if-s.false, c.count_anew.ensures, c.requires.mode)
