use Rattle.std.proofs.Common.{◌≡◌, ℕ, ◌+◌, ◌*◌, ◌/◌, ◌<◌, length, get_or}
use Rattle.vp_glyph.proofs.fronts.Starts.of.Given as goal

-- those before s are found
abbrev pub invariant-loop-s : goal.invariant-loop-s
invariant-loop-s l = record { count : length l.rows ≡ 25; are : (r : ℕ) → r < l.s → get_or l.rows r 0 ≡ (r * l.high + 23) / 24 }
