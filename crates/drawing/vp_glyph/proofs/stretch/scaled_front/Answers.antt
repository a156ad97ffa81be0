use Rattle.std.proofs.Common.{sym, w64, to_z, of_z}
use Rattle.std.proofs.lemmas.Int.{to_z-of_z}
use Rattle.vp_dots.specs.Words.{word_dot}
use Rattle.vp_glyph.proofs.Gathered.{front_white}
use Rattle.vp_glyph.proofs.Spread.{ink}
use Rattle.vp_glyph.proofs.stretch.scaled_front.Goals as goal

pub returns : goal.returns
returns c = λ d l. rw (sym (to_z-of_z w64 c.args.at c.ranges.at))
    (front_white (to_z w64 (of_z w64 c.args.at)) (ink 12 (word_dot c.args.word) c.args.left c.args.width) _ c.word_of.result d l (c.word_of.ensures d) c.paint_scaled.ensures)
