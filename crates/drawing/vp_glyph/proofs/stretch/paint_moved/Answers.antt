use Rattle.std.proofs.Common.{sym, w64}
use Rattle.std.proofs.lemmas.Int.{to_z-of_z}
use Rattle.vp_dots.specs.Words.{word_dot}
use Rattle.vp_glyph.proofs.Moved.{short_row}
use Rattle.vp_glyph.proofs.stretch.paint_moved.Goals as goal

pub returns-then-row-le8 : goal.returns-then-row-le8
returns-then-row-le8 c = rw (sym (to_z-of_z w64 c.args.at c.ranges.at)) (short_row _ _ (word_dot c.args.word) c.moved_word.result _ _ c.if-row-le8.true c.moved_word.ensures c.paint_word.ensures)
