use Rattle.std.proofs.Common.{◌-◌}
use Rattle.vp_qr.specs.Penalty.{is_set}
use Rattle.vp_qr.proofs.FreeModules.{Made}
use Rattle.vp_qr.proofs.symbol.highest_first.Given as goal

abbrev pub invariant-loop-at : goal.invariant-loop-at
invariant-loop-at l = Made (λ j. is_set l.format (14 - j)) l.bits l.at
