use Rattle.std.proofs.Common.{◌≡◌, ◌*◌, ◌≤◌}
use Rattle.vp_qr.specs.Penalty.{sum_below, line_penalty, line_from}
use Rattle.vp_qr.specs.Walk.{dark}
use Rattle.vp_qr.proofs.mask.lines_penalty.Given as goal

abbrev pub invariant-loop-i : goal.invariant-loop-i
invariant-loop-i l = (l.total ≡ sum_below l.i (λ i. line_penalty (line_from (dark l.rows i) 0 l.size))) × (l.total ≤ 2500 * l.i)
