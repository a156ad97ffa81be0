use Rattle.std.proofs.Common.{◌≡◌, ◌*◌, ◌≤◌}
use Rattle.std.specs.Prelude.{if◌then◌else◌}
use Rattle.vp_qr.specs.Penalty.{sum_below}
use Rattle.vp_qr.specs.Walk.{dark}
use Rattle.vp_qr.proofs.mask.dark_modules.Given as goal

abbrev pub invariant-loop-i : goal.invariant-loop-i
invariant-loop-i l = (l.total ≡ sum_below l.i (λ i. sum_below l.size (λ j. if dark l.rows i j then 1 else 0))) × (l.total ≤ 57 * l.i)
