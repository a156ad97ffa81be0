use Rattle.std.proofs.Common.{◌-◌, ◌&&◌, ltb, leb}
use Rattle.vp_dots.specs.Dots.{dot}
use Rattle.vp_dots.specs.Places.{RowsPainted}
use Rattle.vp_label_size.specs.declared.TheConstants.{BAND_ROWS}
use Rattle.vp_field.proofs.block_columns.paint_rows_alike.Given as goal

-- the rows above k are done
abbrev pub invariant-loop-k : goal.invariant-loop-k
invariant-loop-k g l = RowsPainted BAND_ROWS l.op (λ d r. ltb r l.k && (leb l.x d && dot l.dots (d - l.x))) l.fn.band l.band
