use Rattle.std.proofs.Common.{◌≡◌, ℕ, ◌*◌, ◌^◌, ◌<◌, ◌≤◌}
use Rattle.vp_qr.specs.Penalty.{is_set, sum_below}
use Rattle.vp_qr.specs.Walk.{dark}
use Rattle.vp_qr.proofs.Runs.{five_before, five_penalty}
use Rattle.vp_qr.proofs.mask.columns_runs.Given as goal

abbrev pub invariant-loop-at : goal.invariant-loop-at
invariant-loop-at l =
    (l.total ≡ sum_below l.at (λ p. sum_below l.size (λ j. five_penalty (λ i. dark l.rows i j) p)))
    × (l.total ≤ 171 * l.at)
    × (l.above < 2 ^ 64)
    × ((j : ℕ) → j < 64 → is_set l.above j ≡ five_before (λ i. dark l.rows i j) l.at)
