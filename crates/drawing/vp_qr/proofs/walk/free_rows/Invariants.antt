use Rattle.std.proofs.Common.{◌≡◌, ℕ, ◌<◌, not, length}
use Rattle.vp_qr.specs.Places.{size, reserved}
use Rattle.vp_qr.specs.Walk.{dark}
use Rattle.vp_qr.proofs.walk.free_rows.Given as goal

abbrev pub invariant-loop-i : goal.invariant-loop-i
invariant-loop-i l = (length l.rows ≡ 57) × ((i j : ℕ) → i < l.i → j < size l.version → dark l.rows i j ≡ not (reserved l.version i j))
