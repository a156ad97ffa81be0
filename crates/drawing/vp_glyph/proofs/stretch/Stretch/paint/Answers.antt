use Rattle.std.proofs.Common.{rules, ◌∙◌, w64, sym}
use mir.Val.{SFits}
use Rattle.std.proofs.lemmas.Int.{to_z-of_z}
use Rattle.vp_dots.specs.Words.{word_dot}
use Rattle.vp_glyph.proofs.Masks.{word_painted}
use Rattle.vp_glyph.proofs.Moved.{white_word}
use Rattle.vp_glyph.proofs.stretch.Stretch.paint.Goals as goal

pub returns-then-word-eq0 : goal.returns-then-word-eq0
returns-then-word-eq0 c = white_word _ _ c.args.word c.args.left c.args.self.now.width _ c.if-word-eq0.true

pub returns-in-Twice : goal.returns-in-Twice
returns-in-Twice c =
    let fits : SFits w64 c.moved.result = search rules in
    rw (sym (to_z-of_z w64 c.args.at c.ranges.at)) (word_painted _ _ (word_dot c.args.word) c.args.left c.args.self.now.width c.twice.result (to_z-of_z w64 c.moved.result fits ∙ c.moved.ensures) c.twice.ensures c.args.op _ _ c.paint_moved.ensures)
