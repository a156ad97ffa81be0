use Rattle.std.proofs.Common.{arith}
use Rattle.std.proofs.Math.Nat.{div-mul-le_self, mul-le-mul_right}
use Rattle.vp_field.proofs.Alone.{alone_at_top, alone_together, alone_apart}
use Rattle.vp_field.proofs.lines.BlockRows.top_of_line.Goals as goal
use Rattle.vp_field.proofs.lines.BlockRows.top_of_line.Goals.{then-last-eq0-via-then-last-eq0, then-last-eq0-via-else-last-eq0+then-self-eq0}

pub returns-then-last-eq0 : goal.returns-then-last-eq0
returns-then-last-eq0 g c = grind (arith, then-last-eq0-via-then-last-eq0, alone_at_top, then-last-eq0-via-else-last-eq0+then-self-eq0, alone_together)

pub returns : goal.returns
returns g c = grind (arith, mul-le-mul_right, div-mul-le_self, alone_apart)
