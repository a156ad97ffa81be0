use Rattle.std.proofs.Common.{length, ◌-◌, ◌≡◌, ℕ, ◌<◌, ◌≤◌, get_or}
use Rattle.vp_glyph.proofs.sheet.inked_rows.Given as goal

-- the rows above `first` are white
abbrev pub invariant-loop-first : goal.invariant-loop-first
invariant-loop-first l = record {
  inside : l.first ≤ length l.rows;
  white : (y : ℕ) → y < l.first → get_or l.rows y 0 ≡ 0;
}

abbrev pub decreases-loop-first : goal.decreases-loop-first
decreases-loop-first l = length l.rows - l.first

-- and those from `below` on
abbrev pub invariant-loop-below : goal.invariant-loop-below
invariant-loop-below l = record {
  order : l.first ≤ l.below;
  inside : l.below ≤ length l.rows;
  white : (y : ℕ) → l.below ≤ y → get_or l.rows y 0 ≡ 0;
}

abbrev pub decreases-loop-below : goal.decreases-loop-below
decreases-loop-below l = l.below - l.first
