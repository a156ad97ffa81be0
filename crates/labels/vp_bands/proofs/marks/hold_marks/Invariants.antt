use Rattle.std.proofs.Common.{◌≡◌, ◌-◌, length, vec_capacity}
use Rattle.vp_bands.proofs.marks.hold_marks.Given as goal

abbrev pub invariant-loop-marks : goal.invariant-loop-marks
invariant-loop-marks g l = vec_capacity l.marks ≡ vec_capacity l.initial.marks

abbrev pub decreases-loop-marks : goal.decreases-loop-marks
decreases-loop-marks g l = l.fields - length l.marks.items
