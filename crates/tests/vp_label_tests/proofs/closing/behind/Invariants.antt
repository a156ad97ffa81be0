use Rattle.std.proofs.Common.{None}
use Rattle.vp_label.specs.Gathered.{IsGathered}
use Rattle.vp_label_tests.proofs.closing.behind.Given as goal

abbrev pub invariant-loop-byte : goal.invariant-loop-byte
invariant-loop-byte l = IsGathered (record { a = None; b = None }) l.gathered
