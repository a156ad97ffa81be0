use Rattle.std.proofs.Common.{◌≡◌, ◌*◌, ◌≤◌}
use Rattle.vp_qr.specs.Penalty.{sum_below}
use Rattle.vp_qr.specs.Walk.{dark}
use Rattle.vp_qr.proofs.Patterns.{pattern_at}
use Rattle.vp_qr.proofs.mask.columns_patterns.Given as goal

abbrev pub invariant-loop-at : goal.invariant-loop-at
invariant-loop-at l = (l.found ≡ sum_below l.at (λ p. sum_below l.size (λ j. pattern_at (λ i. dark l.rows i j) p))) × (l.found ≤ 57 * l.at)
