use Rattle.std.proofs.Common.{take}
use Rattle.std.specs.List.{All}
use Rattle.vp_bars.specs.Regular.{IsRegular}
use Rattle.vp_bars.proofs.symbology.regular.Given as goal

-- the characters so far
abbrev pub invariant-loop-i : goal.invariant-loop-i
invariant-loop-i l = All (IsRegular l.symbology) (take l.i l.values)
