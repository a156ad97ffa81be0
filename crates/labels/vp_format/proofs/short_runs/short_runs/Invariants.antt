use Rattle.std.proofs.Common.{◌+◌, ◌-◌, ◌*◌, min, length}
use Rattle.vp_format.specs.Cursors.{ReadsOn}
use Rattle.vp_format.proofs.short_runs.short_runs.Given as goal

-- the places hold what the codes so far spell
abbrev pub invariant-loop-at : goal.invariant-loop-at
invariant-loop-at l = ReadsOn l.width l.bytes l.fn.places l.from l.first l.places l.x l.at

abbrev pub decreases-loop-at : goal.decreases-loop-at
decreases-loop-at l = 2 * (length l.bytes - l.at) + min 1 (l.at - l.single)
