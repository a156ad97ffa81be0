use Rattle.std.proofs.Common.{◌≡◌, get_or, length}
use Rattle.vp_dots.specs.Words.{word_dot}
use Rattle.vp_glyph.proofs.Gathered.{Grown}
use Rattle.vp_glyph.proofs.stretch.add_halves.Given as goal

-- the halves before r have the dots
abbrev pub invariant-loop-r : goal.invariant-loop-r
invariant-loop-r l = record {
  count : length l.halves ≡ 24;
  grown : Grown (λ r d. word_dot (get_or l.cell r 0) d) l.r l.fn.halves l.halves;
}
