use Rattle.std.proofs.Common.{ℕ, ◌≡◌, ◌≤◌, ◌<◌, ◌+◌, ◌-◌, ◌||◌, leb, get_or}
use Rattle.vp_dots.specs.Dots.{shifted}
use Rattle.vp_dots.specs.Words.{word_dot}
use Rattle.vp_glyph.specs.Halves.{half_dot}
use Rattle.vp_glyph.proofs.Spread.{edge_at}
use Rattle.vp_glyph.proofs.Windows.{before}
use Rattle.vp_glyph.proofs.stretch.Stretch.add_wide.Given as goal

-- the dots before s are added
abbrev pub invariant-loop-s : goal.invariant-loop-s
invariant-loop-s l = record {
  begun : l.s ≤ 12;
  within : l.from ≤ 32;
  from_is : (d : ℕ) → d < 32 → leb l.from d ≡ shifted l.fn.at (leb (l.left + edge_at 12 l.self.width l.s)) d;
  added : (r d : ℕ) → r < 24 → d < 32 → half_dot (get_or l.rows r 0) d ≡ (half_dot (get_or l.fn.rows r 0) d || shifted l.fn.at (before l.fn.at l.left l.self.width (word_dot (get_or l.cell r 0)) l.s) d);
}

abbrev pub decreases-loop-s : goal.decreases-loop-s
decreases-loop-s l = 12 - l.s
