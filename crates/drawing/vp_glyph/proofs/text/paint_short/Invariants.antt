use Rattle.std.proofs.Common.{◌≡◌, ℕ, ◌<◌, ◌≤◌, ◌-◌, ◌*◌, ◌/◌, ◌⊎◌, length, take}
use Rattle.vp_dots.specs.Dots.{shifted}
use Rattle.vp_dots.specs.Words.{word_dot}
use Rattle.vp_glyph.proofs.Sides.{so_far}
use Rattle.vp_glyph.proofs.text.paint_short.Given as goal

-- the word has the cells before k
abbrev pub invariant-loop-k : goal.invariant-loop-k
invariant-loop-k g l = record {
  within : l.k ≤ length l.text;
  after : l.from / l.stretch.width ≤ l.k;
  begun : (l.k ≡ l.from / l.stretch.width) ⊎ (l.stretch.width * (l.k - 1) < l.to);
  gathered : (d : ℕ) → d < 64 → word_dot l.front d ≡ shifted l.fn.at (so_far l.sheet (take (length l.text) l.text) l.stretch.width l.h 0 l.y l.k) d;
}

abbrev pub decreases-loop-k : goal.decreases-loop-k
decreases-loop-k g l = length l.text - l.k
