use Rattle.std.proofs.Common.{◌-◌, ◌/◌, ap, ◌∙◌, sym, w64}
use Rattle.std.proofs.lemmas.Int.{to_z-of_z}
use Rattle.vp_bars.specs.InBox.{boxed}
use Rattle.vp_bars.specs.Boxes.{Boxed, box_width, line_width}
use Rattle.vp_bars.specs.Symbologies.{text_of}
use Rattle.vp_bars.proofs.BoxRows.{text_stands, text_shown}
use Rattle.vp_bars.proofs.bar_box.BarBox.paint_text.Goals as goal

pub returns-clause-some : goal.returns-clause-some
returns-clause-some g c =
    let s = c.args.self.now in
    let b : Boxed = boxed s in
    let stands = text_stands s.place c.requires (text_of s.bars.now) in
    let own = c.text_width.ensures.width ∙ ap (line_width s.font) stands in
    let left = ap (λ n. n / 2) (c.saturating_sub-left.ensures ∙ ap (λ n. n - c.text_width.result) c.width.ensures.width ∙ ap (λ n. box_width b - n) own) in
    rw (sym (to_z-of_z w64 c.args.at c.ranges.at)) (λ d l e. c.paint_line.ensures.some d l (text_shown _ b c.args.y _ d _ (s.text_is ∙ stands) left e))
