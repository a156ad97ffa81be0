use Rattle.std.proofs.Common.{◌≡◌, ◌+◌, ◌-◌, ◌*◌, ◌≤◌}
use Rattle.vp_qr.specs.Penalty.{sum_below, square_at}
use Rattle.vp_qr.specs.Walk.{dark}
use Rattle.vp_qr.proofs.mask.squares_penalty.Given as goal

abbrev pub invariant-loop-i : goal.invariant-loop-i
invariant-loop-i l = (l.squares ≡ sum_below l.i (λ i. sum_below (l.size - 1) (square_at (dark l.rows i) (dark l.rows (i + 1))))) × (l.squares ≤ 57 * l.i)
