use Rattle.std.proofs.Common.{◌≡◌, ℕ, ◌<◌, length}
use Rattle.vp_qr.specs.Places.{size}
use Rattle.vp_qr.specs.Codes.{version_code}
use Rattle.vp_qr.specs.Symbol.{module_at}
use Rattle.vp_qr.specs.Walk.{dark}
use Rattle.vp_qr.proofs.symbol.Grid.masked.Given as goal

abbrev pub invariant-loop-row : goal.invariant-loop-row
invariant-loop-row l =
    (length l.rows ≡ 57)
    × ((i j : ℕ) → i < l.row → j < size l.self.version
    → dark l.rows i j ≡ module_at l.self.version l.format (version_code l.self.version) l.mask (dark l.self.unmasked) i j)
