use Rattle.std.proofs.Common.{◌-◌, length}
use Rattle.vp_format.specs.Cursors.{ReadsOn}
use Rattle.vp_format.proofs.digits.digits.Given as goal

-- the places hold the digits so far
abbrev pub invariant-loop-x : goal.invariant-loop-x
invariant-loop-x l = ReadsOn l.width l.bytes l.fn.places l.from l.first l.places l.x l.at

abbrev pub decreases-loop-x : goal.decreases-loop-x
decreases-loop-x l = length l.bytes - l.at
