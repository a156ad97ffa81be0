use Rattle.std.proofs.Common.{◌≡◌, ℕ, ◌<◌, length}
use Rattle.vp_qr.specs.Places.{size}
use Rattle.vp_qr.specs.Symbol.{format_here}
use Rattle.vp_qr.specs.Walk.{dark}
use Rattle.vp_qr.proofs.symbol.format_rows.Given as goal

abbrev pub invariant-loop-row : goal.invariant-loop-row
invariant-loop-row l = (length l.rows ≡ 57) × ((i j : ℕ) → i < l.row → j < size l.version → dark l.rows i j ≡ format_here l.version i j)
