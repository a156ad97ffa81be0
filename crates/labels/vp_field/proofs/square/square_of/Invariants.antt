use Rattle.std.proofs.Common.{◌≡◌, ℕ, ◌+◌, ◌<◌, length, get_or}
use Rattle.vp_dots.specs.Words.{word_dot}
use Rattle.vp_glyph.specs.Halves.{half_dot}
use Rattle.vp_field.proofs.square.square_of.Given as goal

-- the rows before i are there
abbrev pub invariant-loop-i : goal.invariant-loop-i
invariant-loop-i l = record {
  count : length l.square ≡ 64;
  left : (j x : ℕ) → j < l.i → x < 32 → word_dot (get_or l.square j 0) x ≡ half_dot (get_or l.left j 0) x;
  right : (j x : ℕ) → j < l.i → x < 32 → word_dot (get_or l.square j 0) (32 + x) ≡ half_dot (get_or l.right j 0) x;
}
