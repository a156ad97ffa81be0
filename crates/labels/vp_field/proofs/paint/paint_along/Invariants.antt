use Rattle.std.proofs.Common.{◌≡◌, ◌*◌, ◌+◌, ◌-◌, ◌≤◌, ◌&&◌, ltb, pos}
use Rattle.vp_label_size.specs.declared.TheConstants.{BAND_BYTES, BAND_ROWS}
use Rattle.vp_field.specs.Axes.{laid}
use Rattle.vp_field.specs.Bands.{ShownPainted}
use Rattle.vp_field.specs.Counts.{ArePieces}
use Rattle.vp_field.specs.declared.axis.Lines.TheVariants.{Along}
use Rattle.vp_field.proofs.paint.paint_along.Given as goal

-- the rows above k are done, and no row took two lines; without a line it is the first one
abbrev pub invariant-loop-k : goal.invariant-loop-k
invariant-loop-k g l = record {
  ink : l.pen.ink ≡ l.fn.ink.ink;
  painted : ShownPainted l.seen l.op (λ x k. ltb k l.k && laid Along l.columns l.rows (g.I.Ink.ink_at l.fn.ink.ink.now) (pos x) (pos (l.fn.first + k))) l.fn.band l.band;
  lines : l.pen.lines + (l.end - l.k) ≤ BAND_ROWS;
  counted : ArePieces (g.I.Pieces.most_pieces l.pen.ink.now (8 * BAND_BYTES)) l.pen.lines l.pen.pieces;
  none : l.pen.lines ≡ 0 → l.k ≡ l.from - l.fn.first;
}

abbrev pub decreases-loop-k : goal.decreases-loop-k
decreases-loop-k g l = l.end - l.k
