use Rattle.vp_glyph.proofs.Spread.{Running}
use Rattle.vp_dots.specs.Words.{word_dot}
use Rattle.vp_glyph.proofs.look.paint_scaled.Given as goal

abbrev pub invariant-loop-s : goal.invariant-loop-s
invariant-loop-s l = Running l.op l.fn.at 12 (word_dot l.word) l.left l.width l.s l.from l.to l.fn.row l.row
