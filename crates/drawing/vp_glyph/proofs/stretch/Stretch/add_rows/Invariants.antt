use Rattle.std.proofs.Common.{◌≡◌, get_or, length}
use Rattle.vp_dots.specs.Dots.{shifted}
use Rattle.vp_dots.specs.Words.{word_dot}
use Rattle.vp_glyph.proofs.Gathered.{Grown}
use Rattle.vp_glyph.proofs.Spread.{ink}
use Rattle.vp_glyph.proofs.stretch.Stretch.add_rows.Given as goal

-- the rows before s are added
abbrev pub invariant-loop-s : goal.invariant-loop-s
invariant-loop-s l = record {
  count : length l.rows ≡ 24;
  grown : Grown (λ r d. shifted l.fn.at (ink 12 (word_dot (get_or l.cell r 0)) l.left l.self.width) d) l.s l.fn.rows l.rows;
}
