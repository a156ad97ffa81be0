use Rattle.std.proofs.Common.{ℕ, ◌≡◌, ◌-◌, ◌<◌, ◌≤◌, get_or}
use Rattle.vp_field.proofs.square.are_white.Given as goal

-- the halves so far are white
abbrev pub invariant-loop-i : goal.invariant-loop-i
invariant-loop-i g l = record { within : l.i ≤ g.row.N; white : (j : ℕ) → j < l.i → get_or l.halves j 0 ≡ 0 }

abbrev pub decreases-loop-i : goal.decreases-loop-i
decreases-loop-i g l = g.row.N - l.i

abbrev pub invariant-loop-i-2 : goal.invariant-loop-i-2
invariant-loop-i-2 g l = record { within : l.i ≤ g.row.N; white : (j : ℕ) → j < l.i → get_or l.halves j 0 ≡ 0 }

abbrev pub decreases-loop-i-2 : goal.decreases-loop-i-2
decreases-loop-i-2 g l = g.row.N - l.i
