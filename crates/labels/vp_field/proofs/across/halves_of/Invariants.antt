use Rattle.std.proofs.Common.{◌≡◌, ℕ, ◌+◌, ◌-◌, ◌<◌, ◌≤◌, length, get_or, pos}
use Rattle.vp_glyph.specs.Halves.{half_dot}
use Rattle.vp_label_size.specs.declared.TheConstants.{BAND_ROWS}
use Rattle.vp_field.specs.Axes.{laid}
use Rattle.vp_field.specs.Counts.{ArePieces}
use Rattle.vp_field.specs.declared.axis.Lines.TheVariants.{Across}
use Rattle.vp_field.proofs.across.halves_of.Given as goal

-- the columns before i are drawn, and no column took two lines
abbrev pub invariant-loop-i : goal.invariant-loop-i
invariant-loop-i g l = record {
  count : length l.halves ≡ 64;
  within : l.i ≤ l.many;
  ink : l.pen.ink ≡ l.fn.pen.ink;
  lines : l.pen.lines ≤ l.fn.pen.lines + l.i;
  counted : ArePieces (g.I.Pieces.most_pieces l.pen.ink.now BAND_ROWS) l.pen.lines l.pen.pieces;
  more : l.fn.pen.lines ≤ l.pen.lines;
  some : 0 < l.i → l.fn.pen.lines < l.pen.lines;
  drawn : (j k : ℕ) → j < l.i → k < BAND_ROWS
      → half_dot (get_or l.halves j 0) k ≡ laid Across l.columns l.rows (g.I.Ink.ink_at l.fn.pen.ink.now) (pos (l.x + j)) (pos (l.first + k));
  white : (j : ℕ) → l.i ≤ j → get_or l.halves j 0 ≡ 0;
}

abbrev pub decreases-loop-i : goal.decreases-loop-i
decreases-loop-i g l = l.many - l.i
