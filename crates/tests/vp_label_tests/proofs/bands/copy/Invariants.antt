use Rattle.std.proofs.Common.{None}
use Rattle.vp_format.specs.Formats.{held}
use Rattle.vp_bands.specs.Standing.{IsBefore}
use Rattle.vp_label_tests.proofs.bands.copy.Given as goal

abbrev pub invariant-loop-b : goal.invariant-loop-b
invariant-loop-b l = IsBefore (record { a = None; b = None }) (held l.format.fields l.format.stored) l.view l.b l.painter
