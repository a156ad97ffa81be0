use Rattle.std.proofs.Common.{rules, ◌∙◌, w64, sym}
use mir.Val.{SFits}
use Rattle.std.proofs.lemmas.Int.{to_z-of_z}
use Rattle.vp_dots.specs.Words.{word_dot}
use Rattle.vp_glyph.proofs.Masks.{word_placed}
use Rattle.vp_glyph.proofs.stretch.Stretch.front.Goals as goal

pub returns-in-Twice : goal.returns-in-Twice
returns-in-Twice c =
    let fits : SFits w64 c.moved.result = search rules in
    λ d l. rw (sym (to_z-of_z w64 c.args.at c.ranges.at))
    (c.moved_word.ensures d l ∙ word_placed _ _ (word_dot c.args.word) c.args.left c.args.self.now.width c.twice.result (to_z-of_z w64 c.moved.result fits ∙ c.moved.ensures) c.twice.ensures d)
