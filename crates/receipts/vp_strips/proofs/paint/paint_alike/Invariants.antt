use Rattle.std.proofs.Common.{◌+◌, ◌&&◌, ltb, pos}
use Rattle.vp_dots.specs.Dots.{shifted, span}
use Rattle.vp_dots.specs.Words.{word_dot}
use Rattle.vp_strips.proofs.OwnRows.{OwnPainted}
use Rattle.vp_strips.proofs.paint.paint_alike.Given as goal

-- the rows above top + i are done
abbrev pub invariant-loop-i : goal.invariant-loop-i
invariant-loop-i g l = OwnPainted l.fn.same (λ x k. ltb k (l.fn.top + l.i) && (span l.fn.top (l.fn.top + l.fn.times) k && shifted (pos l.fn.at) (word_dot l.fn.word) x)) l.fn.band l.band
