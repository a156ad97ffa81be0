use Rattle.std.proofs.Common.{◌≡◌, ℕ, ◌+◌, ◌*◌, ◌<◌, [], length, get_or}
use Rattle.vp_dots.specs.Dots.{dot}
use Rattle.vp_dots.specs.Words.{word_dot}
use Rattle.vp_page.proofs.half.square_at.Given as goal

-- the words before this one are made
abbrev pub invariant-loop-k : goal.invariant-loop-k
invariant-loop-k g l = record {
  count : length l.square ≡ 64;
  dots : (j x : ℕ) → j < l.k → x < 64 → word_dot (get_or l.square j 0) x ≡ dot (get_or l.band (l.y + j) []) (8 * l.i + x);
}
