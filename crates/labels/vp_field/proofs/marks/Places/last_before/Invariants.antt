use Rattle.std.proofs.Common.{◌≤◌}
use Rattle.vp_field.proofs.marks.Places.last_before.Given as goal

-- the places from k on are looked at
abbrev pub invariant-loop-k : goal.invariant-loop-k
invariant-loop-k l = l.k ≤ 8

abbrev pub decreases-loop-k : goal.decreases-loop-k
decreases-loop-k l = l.k
