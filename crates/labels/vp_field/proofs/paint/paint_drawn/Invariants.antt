use Rattle.std.proofs.Common.{◌+◌, ◌*◌, ◌&&◌, ltb, leb}
use Rattle.vp_dots.specs.Dots.{dot, span}
use Rattle.vp_dots.specs.Places.{RowsPainted}
use Rattle.vp_label_size.specs.declared.TheConstants.{BAND_ROWS}
use Rattle.vp_field.proofs.paint.paint_drawn.Given as goal

-- i rows are done
abbrev pub invariant-loop-i : goal.invariant-loop-i
invariant-loop-i g l = RowsPainted BAND_ROWS l.op (λ x r. ltb r (l.k + l.i) && (leb l.k r && (span (8 * l.reach.from) (8 * l.reach.to) x && dot l.line x))) l.fn.band l.band
