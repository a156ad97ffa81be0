use Rattle.std.proofs.Common.{◌≡◌, ℕ, ◌/◌, ◌&&◌, ltb, get_or, length}
use Rattle.vp_dots.specs.Words.{word_dot}
use Rattle.vp_glyph.proofs.look.doubled_rows.Given as goal

-- the rows above y are drawn
abbrev pub invariant-loop-y : goal.invariant-loop-y
invariant-loop-y l = record {
  count : length l.wide ≡ 24;
  rows_are : (k x : ℕ) → word_dot (get_or l.wide k 0) x ≡ (ltb k l.y && (ltb x 24 && word_dot (get_or l.rows k 0) (x / 2)));
}
