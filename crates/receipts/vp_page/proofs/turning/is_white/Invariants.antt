use Rattle.std.proofs.Common.{◌≡◌, ℕ, ◌<◌, true, get_or}
use Rattle.vp_dots.specs.Words.{word_dot}
use Rattle.vp_page.proofs.turning.is_white.Given as goal

-- the word has the black dots of the rows above this one
abbrev pub invariant-loop-k : goal.invariant-loop-k
invariant-loop-k l = (y x : ℕ) → y < l.k → x < 64 → word_dot (get_or l.square y 0) x ≡ true → word_dot l.black x ≡ true
