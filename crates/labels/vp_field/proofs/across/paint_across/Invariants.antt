use Rattle.std.proofs.Common.{◌≡◌, ◌+◌, ◌-◌, ◌<◌, ◌≤◌, ◌&&◌, ltb, pos}
use Rattle.vp_dots.specs.Places.{RowsPainted}
use Rattle.vp_field.specs.Axes.{laid}
use Rattle.vp_field.specs.Counts.{ArePieces}
use Rattle.vp_label_size.specs.declared.TheConstants.{BAND_ROWS, WIDEST}
use Rattle.vp_field.specs.declared.axis.Lines.TheVariants.{Across}
use Rattle.vp_field.proofs.across.paint_across.Given as goal

-- the columns before x are done, and no column took two lines
abbrev pub invariant-loop-x : goal.invariant-loop-x
invariant-loop-x g l = record {
  ink : l.pen.ink ≡ l.fn.ink.ink;
  painted : RowsPainted BAND_ROWS l.op (λ d k. ltb d l.x && (ltb d l.end && laid Across l.columns l.rows (g.I.Ink.ink_at l.fn.ink.ink.now) (pos d) (pos (l.first + k)))) l.fn.band l.band;
  lines : l.pen.lines + (l.end - l.x) ≤ WIDEST;
  counted : ArePieces (g.I.Pieces.most_pieces l.pen.ink.now BAND_ROWS) l.pen.lines l.pen.pieces;
  some : l.from < l.x → 0 < l.pen.lines;
}

abbrev pub decreases-loop-x : goal.decreases-loop-x
decreases-loop-x g l = l.end - l.x
