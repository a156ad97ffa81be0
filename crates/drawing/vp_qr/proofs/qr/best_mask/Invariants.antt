use Rattle.std.proofs.Common.{◌≡◌, ℕ, ◌<◌, List, length, get_or}
use Rattle.vp_qr.specs.Places.{size}
use Rattle.vp_qr.specs.Penalty.{penalty}
use Rattle.vp_qr.specs.Encoding.{masked}
use Rattle.vp_qr.specs.Grids.{IsGridOf}
use Rattle.vp_qr.proofs.qr.best_mask.Given as goal

abbrev pub invariant-loop-mask : goal.invariant-loop-mask
invariant-loop-mask l =
    (length l.penalties ≡ 8)
    × ((codewords : List ℕ) → IsGridOf codewords l.grid → (k : ℕ) → k < l.mask → get_or l.penalties k 0 ≡ penalty (masked l.level l.grid.version codewords k) (size l.grid.version))
