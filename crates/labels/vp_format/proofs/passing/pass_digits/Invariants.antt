use Rattle.std.proofs.Common.{◌-◌, length}
use Rattle.vp_format.specs.Cursors.{PassesOn}
use Rattle.vp_format.proofs.passing.pass_digits.Given as goal

abbrev pub invariant-loop-x : goal.invariant-loop-x
invariant-loop-x l = PassesOn l.bytes l.from l.first l.x l.at

abbrev pub decreases-loop-x : goal.decreases-loop-x
decreases-loop-x l = length l.bytes - l.at
