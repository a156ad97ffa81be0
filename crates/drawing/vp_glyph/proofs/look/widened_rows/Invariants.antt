use Rattle.std.proofs.Common.{◌≡◌, ℕ, ◌+◌, ◌*◌, ◌/◌, ◌&&◌, ltb, get_or, length}
use Rattle.vp_dots.specs.Words.{word_dot}
use Rattle.vp_glyph.proofs.look.widened_rows.Given as goal

-- the rows above y are drawn
abbrev pub invariant-loop-y : goal.invariant-loop-y
invariant-loop-y g l = record {
  count : length l.wide ≡ 24;
  rows_are : (k x : ℕ) → word_dot (get_or l.wide k 0) x ≡ (ltb k l.y && (ltb x (g.row.N * l.wm) && word_dot (get_or l.rows k 0) (l.first + x / l.wm)));
}
