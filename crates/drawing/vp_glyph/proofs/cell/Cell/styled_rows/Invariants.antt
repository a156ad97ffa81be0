use Rattle.std.proofs.Common.{◌≡◌, ℕ, ◌&&◌, ltb, get_or, length}
use Rattle.vp_dots.specs.Words.{word_dot}
use Rattle.vp_glyph.specs.Parts.{row_dot}
use Rattle.vp_glyph.proofs.cell.Cell.styled_rows.Given as goal

-- the rows above y are written
abbrev pub invariant-loop-y : goal.invariant-loop-y
invariant-loop-y g l = record {
  count : length l.styled ≡ 24;
  rows_are : (k x : ℕ) → word_dot (get_or l.styled k 0) x ≡ (ltb k l.y && row_dot l.self.sheets.now l.self.font l.self.style l.self.character x k);
}
