use Rattle.std.proofs.Common.{◌&&◌, ltb}
use Rattle.vp_dots.specs.Dots.{dot, span}
use Rattle.vp_dots.specs.Places.{RowsPainted}
use Rattle.vp_label_size.specs.declared.TheConstants.{BAND_ROWS}
use Rattle.vp_field.proofs.across.paint_run.Given as goal

-- the rows above k are done
abbrev pub invariant-loop-k : goal.invariant-loop-k
invariant-loop-k g l = RowsPainted BAND_ROWS l.op (λ d r. ltb r l.k && (span l.from l.to d && dot l.line r)) l.fn.band l.band
