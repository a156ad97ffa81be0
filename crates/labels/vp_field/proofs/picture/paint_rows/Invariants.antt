use Rattle.std.proofs.Common.{◌≡◌, ◌+◌, ◌-◌, length, pos}
use Rattle.vp_dots.specs.Places.{RowsPainted}
use Rattle.vp_label_size.specs.declared.TheConstants.{BAND_ROWS}
use Rattle.vp_field.specs.Axes.{laid}
use Rattle.vp_field.specs.Contents.{picture_dot}
use Rattle.vp_field.specs.Drawn.{part}
use Rattle.vp_field.specs.declared.axis.Lines.TheVariants.{Along}
use Rattle.vp_field.proofs.picture.paint_rows.Given as goal

-- the rows above y are read and painted
abbrev pub invariant-loop-y : goal.invariant-loop-y
invariant-loop-y g l = record {
  rows : l.rows.cursor ≡ record l.fn.rows.cursor { next = l.y };
  shown : l.rows.shown ≡ l.y - l.from;
  len : length l.row ≡ length l.fn.row;
  painted : RowsPainted BAND_ROWS l.op (λ x k. laid Along l.at.columns l.at.rows (part l.from l.y (picture_dot l.fn.rows.cursor.picture)) (pos x) (pos (l.first + k))) l.fn.band l.band;
}
