use Rattle.std.proofs.Common.{◌+◌, ◌*◌, ◌&&◌, ltb}
use Rattle.vp_dots.specs.Dots.{span}
use Rattle.vp_strips.proofs.OwnRows.{OwnPainted}
use Rattle.vp_strips.proofs.paint.blacken_blocks.Given as goal

-- the rows above top + i are done
abbrev pub invariant-loop-i : goal.invariant-loop-i
invariant-loop-i g l = OwnPainted l.fn.same (λ x k. ltb k (l.fn.top + l.i) && (span l.fn.top (l.fn.top + l.fn.high) k && span (8 * l.fn.first) l.fn.end x)) l.fn.band l.band
