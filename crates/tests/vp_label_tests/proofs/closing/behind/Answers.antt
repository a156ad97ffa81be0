use Rattle.std.proofs.Common.{None, [], subst, sym}
use Rattle.vp_label.specs.Gathered.{IsGathered}
use Rattle.vp_label_tests.proofs.closing.behind.Goals as goal
use Rattle.vp_label_tests.proofs.closing.behind.Goals.{in-Some+in-Some-take, in-Some+in_default-take, in_default}

pub loop-byte-init : goal.loop-byte-init
loop-byte-init c = ([], c.in_ok-gathered.ensures (record { a = None; b = None }))

pub loop-byte-preserved : goal.loop-byte-preserved
loop-byte-preserved c = elim c.match-take.branch [
  | in-Some+in-Some-take w ↦ subst (IsGathered (record { a = None; b = None })) (sym w.gathered-is) w.take-in-Some.ensures
  | in-Some+in_default-take w ↦ subst (IsGathered (record { a = None; b = None })) (sym w.gathered-is) w.take-in-Some.ensures
  | in_default w ↦ subst (IsGathered (record { a = None; b = None })) (sym w.gathered-is) c.loop-byte.invariant
]
