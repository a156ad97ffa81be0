use Rattle.std.proofs.Common.{◌≡◌, ◌*◌, length}
use Rattle.vp_dots.proofs.Squares.{Stepped}
use Rattle.vp_dots.proofs.square.step.Given as goal

-- two rows for each pair so far
abbrev pub invariant-loop-i : goal.invariant-loop-i
invariant-loop-i l = record { count : length l.new ≡ 64; done : Stepped l.fn.wide l.fn.left (2 * l.i) l.fn.rows l.new }
