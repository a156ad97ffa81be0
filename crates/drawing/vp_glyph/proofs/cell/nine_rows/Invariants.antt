use Rattle.std.proofs.Common.{◌≡◌, ℕ, ◌*◌, ◌/◌, ◌&&◌, ltb, get_or, length}
use Rattle.vp_dots.specs.Words.{word_dot}
use Rattle.vp_glyph.proofs.cell.nine_rows.Given as goal

-- the rows above y are drawn
abbrev pub invariant-loop-y : goal.invariant-loop-y
invariant-loop-y l = record {
  count : length l.nine ≡ 17;
  rows_are : (k x : ℕ) → word_dot (get_or l.nine k 0) x ≡ (ltb k l.y && (ltb x 9 && word_dot (get_or l.rows (k * 24 / 17) 0) (x * 12 / 9)));
}
