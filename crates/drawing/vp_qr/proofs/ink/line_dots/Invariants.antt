use Rattle.std.proofs.Common.{◌-◌, ◌≤◌, replicate}
use Rattle.vp_dots.specs.Painting.{Painted}
use Rattle.vp_dots.specs.declared.Op.TheVariants.{Black}
use Rattle.vp_qr.proofs.InkLines.{left_ink}
use Rattle.vp_qr.proofs.ink.line_dots.Given as goal

abbrev pub invariant-loop-column : goal.invariant-loop-column
invariant-loop-column l = Painted Black (left_ink l.line l.size l.scale l.column) (replicate 120 0) l.dots × (l.column ≤ l.size)

abbrev pub decreases-loop-column : goal.decreases-loop-column
decreases-loop-column l = l.size - l.column
