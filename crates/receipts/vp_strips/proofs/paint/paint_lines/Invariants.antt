use Rattle.std.proofs.Common.{◌+◌, ◌-◌, ◌*◌, ◌/◌, ◌&&◌, leb, ltb, pos, get_or}
use Rattle.vp_dots.specs.Dots.{shifted}
use Rattle.vp_dots.specs.Words.{word_dot}
use Rattle.vp_strips.proofs.OwnRows.{OwnPainted}
use Rattle.vp_strips.proofs.paint.paint_lines.Given as goal

-- the rows of v words are done
abbrev pub invariant-loop-v : goal.invariant-loop-v
invariant-loop-v g l = OwnPainted l.fn.same (λ x k. ltb k (l.fn.top + l.v * l.fn.times) && (leb l.fn.top k && (ltb ((k - l.fn.top) / l.fn.times) l.fn.high && shifted (pos l.fn.at) (word_dot (get_or l.fn.words ((k - l.fn.top) / l.fn.times) 0)) x))) l.fn.band l.band
