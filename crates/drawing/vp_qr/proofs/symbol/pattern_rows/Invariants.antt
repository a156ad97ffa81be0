use Rattle.std.proofs.Common.{◌≡◌, ℕ, ◌<◌, length}
use Rattle.vp_qr.specs.Places.{size}
use Rattle.vp_qr.specs.Codes.{version_code}
use Rattle.vp_qr.specs.Symbol.{pattern_dark}
use Rattle.vp_qr.specs.Walk.{dark}
use Rattle.vp_qr.proofs.symbol.pattern_rows.Given as goal

abbrev pub invariant-loop-row : goal.invariant-loop-row
invariant-loop-row l = (length l.rows ≡ 57) × ((i j : ℕ) → i < l.row → j < size l.version → dark l.rows i j ≡ pattern_dark l.version (version_code l.version) i j)
