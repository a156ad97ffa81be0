use Rattle.std.proofs.Common.{◌≡◌, ltb, ◌&&◌}
use Rattle.vp_dots.specs.Places.{RowsPainted}
use Rattle.vp_label_size.specs.declared.TheConstants.{BAND_ROWS}
use Rattle.vp_field.proofs.Handing.{columns_dot, behind, AreLeft, many_left}
use Rattle.vp_field.proofs.block_columns.paint_columns.Given as goal

-- the columns before those that were handed out last are painted
abbrev pub invariant-loop-mixed : goal.invariant-loop-mixed
invariant-loop-mixed g l = record {
  from : l.rest.from ≡ l.fn.columns.from;
  end : l.rest.end ≡ l.fn.columns.end;
  left : AreLeft l.fn.columns.x l.fn.columns.left.now l.mixed l.rest.left.now l.rest.x;
  painted : RowsPainted BAND_ROWS l.op (λ d k. ltb d (behind l.fn.columns.x l.fn.columns.left.now l.mixed) && columns_dot l.fn.columns.x l.fn.columns.left.now l.rows d k) l.fn.band l.band;
}

abbrev pub decreases-loop-mixed : goal.decreases-loop-mixed
decreases-loop-mixed g l = many_left l.mixed l.rest.left.now
